-- Exported calls worked through by hand from REFERENCE and the layout of the words: codes, words and numbers of each kind of answer, by the
-- 67 words of the base rules and by the 75 of this library, and the change-over from one to the other. Definitions for `Cases`.
use mathlib.Core.List.{List, [], ◌∷◌, ◌++◌}
use Prim.Native.Nat.{ℕ}
use lib.IntN.{pos, negsuc}
use lib.ListN.{replicate}
use Rattle.limits.specs.Errors.{value_or}
use Rattle.kernel.specs.declared.Choice.TheVariants.{Binomial, Smallest}
use Rattle.covariance.specs.declared.Shape.TheVariants.{Matrix}
use Rattle.machine.specs.Rules.{Rules, base_rules, choice_rules}
use Rattle.machine.specs.Answers.{count_number, count_values}
use Rattle.machine.specs.Calls.{Call, submit, tick, collect, withdraw}
use Rattle.word_calls.specs.Exported.{Exported, opening_code, opening_words, count_words, change_code, change_words}
use Rattle.word_calls.specs.Lists.{exported_call}

-- ---- words of the base rules, 8 a slot
abbrev pub zeros : ℕ → List ℕ
zeros n = replicate n 0

-- a record of one job, in slot 2: number 5, xx 1000, xy −999 (which stands as 2^32 − 999), yy 1001, 3 steps of which so many are
-- left, 2 × 1 pixels. The last number given is 9, the slot last filled 2 and the slot last served 6
abbrev pub one_job : ℕ → List ℕ
one_job left = zeros 16 ++ (5 ∷ 1000 ∷ 4294966297 ∷ 1001 ∷ 3 ∷ left ∷ 2 ∷ 1 ∷ zeros 40 ++ (9 ∷ 2 ∷ 6 ∷ []))

-- the same record with slot 2 empty
abbrev pub no_job : List ℕ
no_job = zeros 64 ++ (9 ∷ 2 ∷ 6 ∷ [])

-- words that hold no record: the last one is missing, there is one more, steps left of 33 bits
abbrev pub too_few : List ℕ
too_few = zeros 16 ++ (5 ∷ 1000 ∷ 4294966297 ∷ 1001 ∷ 3 ∷ 2 ∷ 2 ∷ 1 ∷ zeros 40 ++ (9 ∷ 2 ∷ []))

abbrev pub too_many : List ℕ
too_many = one_job 2 ++ (0 ∷ [])

abbrev pub too_wide : List ℕ
too_wide = one_job 4294967296

-- a record that is not in order: more steps left than steps
abbrev pub not_in_order : List ℕ
not_in_order = one_job 4

-- ---- words of this library, 9 a slot: the ninth is f. The job's lies from |xy|, 999, to the smaller variance, 1000
abbrev pub new_job : ℕ → ℕ → List ℕ
new_job left f = zeros 18 ++ (5 ∷ 1000 ∷ 4294966297 ∷ 1001 ∷ 3 ∷ left ∷ 2 ∷ 1 ∷ f ∷ zeros 45 ++ (9 ∷ 2 ∷ 6 ∷ []))

abbrev pub no_new_job : List ℕ
no_new_job = zeros 72 ++ (9 ∷ 2 ∷ 6 ∷ [])

-- an f in an empty slot
abbrev pub stale_free : List ℕ
stale_free = zeros 17 ++ (1 ∷ zeros 54 ++ (9 ∷ 2 ∷ 6 ∷ []))

-- ---- stores: the two buffers of slot 2 start at 4 × 1024 and 5 × 1024, the first of slot 3 at 6 × 1024
abbrev pub stored : List ℕ → List ℕ → List ℕ → List ℕ
stored even odd other = zeros 4096 ++ (even ++ (zeros 1022 ++ (odd ++ (zeros 1022 ++ (other ++ zeros 10234)))))

abbrev pub store : List ℕ
store = stored (1 ∷ 2 ∷ []) (1000 ∷ 0 ∷ []) (zeros 6)

-- ---- calls
-- a call, the words, the store and the number lent to it; and what is left: code, words, number, store, lent picture
pub record Case : Type 0 where
  pub rules : Rules
  pub call : Call
  pub words : List ℕ
  pub store : List ℕ
  pub left : Exported

-- the number lent to each call
abbrev pub before : ℕ
before = 77

abbrev pub case_by : Rules → Call → List ℕ → ℕ → List ℕ → ℕ → List ℕ → List ℕ → Case
case_by rules call words code after number storeAfter lent =
    record {
      rules = rules;
      call = call;
      words = words;
      store = store;
      left = record { code = code; words = after; number = number; store = storeAfter; lent = lent };
    }

abbrev pub case : Call → List ℕ → ℕ → List ℕ → ℕ → List ℕ → List ℕ → Case
case = case_by base_rules

-- a refusal leaves everything as it was
abbrev pub refused_by : Rules → List ℕ → Call → List ℕ → ℕ → List ℕ → Case
refused_by rules store call words code lent =
    record {
      rules = rules;
      call = call;
      words = words;
      store = store;
      left = record { code = code; words = words; number = before; store = store; lent = lent };
    }

abbrev pub refused_with : List ℕ → Call → List ℕ → ℕ → List ℕ → Case
refused_with = refused_by base_rules

abbrev pub refused : Call → List ℕ → ℕ → List ℕ → Case
refused = refused_with store

abbrev pub six : List ℕ
six = 11 ∷ 12 ∷ 13 ∷ 14 ∷ 15 ∷ 16 ∷ []

-- by the base rules: the choice that stands in a submit is not read
abbrev pub calls : List Case
calls =
    -- job 5, in the slot after 7, 0 and 1, gets its second step, from the odd buffer to the even one. With M = 3 × 4096 its f is 999,
    -- so a column beside has 0 + 2 + 1998 of 4 × M = 49152 and the middle one 45152, and 1000, 0 become 47152000 / 49152 and
    -- 2000000 / 49152, rounded
    case tick (one_job 2) 0 (zeros 16 ++ (5 ∷ 1000 ∷ 4294966297 ∷ 1001 ∷ 3 ∷ 1 ∷ 2 ∷ 1 ∷ zeros 40 ++ (9 ∷ 2 ∷ 2 ∷ []))) 5
    (stored (959 ∷ 41 ∷ []) (1000 ∷ 0 ∷ []) (zeros 6)) []
    -- idle writes the number 0 and nothing else
    ∷ case tick (one_job 0) 0 (one_job 0) 0 store []
    ∷ case tick no_job 0 no_job 0 store []
    ∷ refused tick not_in_order 2 []
    ∷ refused tick too_few 2 []
    ∷ refused tick too_many 2 []
    ∷ refused tick too_wide 2 []
    ∷ refused_with (zeros 16383) tick (one_job 2) 2 []
    -- a submit fills the slot after the one last filled and gives the next number; −800 stands as 2^32 − 800
    ∷ case (submit Binomial (Matrix (pos 900) (negsuc 799) (pos 1000)) 4 3 2 six) (one_job 2) 0
    (zeros 16
    ++ (5 ∷ 1000 ∷ 4294966297 ∷ 1001 ∷ 3 ∷ 2 ∷ 2 ∷ 1
    ∷ 10 ∷ 900 ∷ 4294966496 ∷ 1000 ∷ 4 ∷ 4 ∷ 3 ∷ 2
    ∷ zeros 32 ++ (10 ∷ 3 ∷ 6 ∷ [])))
    10 (stored (1 ∷ 2 ∷ []) (1000 ∷ 0 ∷ []) six) six
    ∷ refused (submit Binomial (Matrix (pos 900) (negsuc 799) (pos 1000)) 65 3 2 six) (one_job 2) 5 six
    ∷ refused (submit Binomial (Matrix (pos 900) (negsuc 799) (pos 1000)) 4 2 2 six) (one_job 2) 9 six
    -- REFERENCE's case g
    ∷ refused (submit Binomial (Matrix (pos 1000) (pos 1001) (pos 1000)) 1 3 2 six) (one_job 2) 11 six
    ∷ refused (submit Binomial (Matrix (pos 900) (negsuc 799) (pos 1000)) 4 3 2 six) too_few 2 six
    ∷ refused_with (zeros 16383) (submit Binomial (Matrix (pos 900) (negsuc 799) (pos 1000)) 4 3 2 six) (one_job 2) 2 six
    -- a collect writes the picture out, after an odd number of steps from the odd buffer, and the number again
    ∷ case (collect 5 (7 ∷ 8 ∷ [])) (one_job 0) 0 no_job 5 store (1000 ∷ 0 ∷ [])
    ∷ refused (collect 5 (7 ∷ 8 ∷ [])) (one_job 1) 8 (7 ∷ 8 ∷ [])
    ∷ refused (collect 5 six) (one_job 0) 9 six
    ∷ refused (collect 9 (7 ∷ 8 ∷ [])) (one_job 0) 7 (7 ∷ 8 ∷ [])
    ∷ refused (collect 5 (7 ∷ 8 ∷ [])) (one_job 0 ++ (0 ∷ [])) 2 (7 ∷ 8 ∷ [])
    -- a withdraw empties the slot, finished or not, and writes the number again
    ∷ case (withdraw 5) (one_job 0) 0 no_job 5 store []
    ∷ case (withdraw 5) (one_job 3) 0 no_job 5 store []
    ∷ refused (withdraw 9) (one_job 3) 7 []
    ∷ refused (withdraw 0) (one_job 3) 7 []
    ∷ refused (withdraw 5) not_in_order 2 []
    ∷ refused (withdraw 5) too_many 2 []
    ∷ []

-- by this library's: a tick keeps f, a submit writes the f of its choice, and an f outside its bounds is refused in every call. For 900, −800,
-- 1000 with 4 steps M is 16384: the smallest f is 800, and so is the binomial one, half of 900 + 1000 + 1000 − 16384 being below it; for
-- 8192, 0, 8192 it is half of 3 × 8192 − 16384, so 4096, and the smallest is 0
abbrev pub new_calls : List Case
new_calls =
    case_by choice_rules tick (new_job 2 999) 0 (zeros 18 ++ (5 ∷ 1000 ∷ 4294966297 ∷ 1001 ∷ 3 ∷ 1 ∷ 2 ∷ 1 ∷ 999 ∷ zeros 45 ++ (9 ∷ 2 ∷ 2 ∷ []))) 5
    (stored (959 ∷ 41 ∷ []) (1000 ∷ 0 ∷ []) (zeros 6)) []
    -- any f between the bounds; in a row of pixels it makes no difference
    ∷ case_by choice_rules tick (new_job 2 1000) 0 (zeros 18 ++ (5 ∷ 1000 ∷ 4294966297 ∷ 1001 ∷ 3 ∷ 1 ∷ 2 ∷ 1 ∷ 1000 ∷ zeros 45 ++ (9 ∷ 2 ∷ 2 ∷ []))) 5
    (stored (959 ∷ 41 ∷ []) (1000 ∷ 0 ∷ []) (zeros 6)) []
    ∷ refused_by choice_rules store tick (new_job 2 998) 2 []
    ∷ refused_by choice_rules store tick (new_job 2 1001) 2 []
    ∷ refused_by choice_rules store tick (new_job 2 0) 2 []
    ∷ refused_by choice_rules store tick stale_free 2 []
    ∷ refused_by choice_rules store (submit Smallest (Matrix (pos 900) (negsuc 799) (pos 1000)) 4 3 2 six) (new_job 2 998) 2 six
    ∷ refused_by choice_rules store (collect 5 (7 ∷ 8 ∷ [])) (new_job 0 998) 2 (7 ∷ 8 ∷ [])
    ∷ refused_by choice_rules store (withdraw 5) (new_job 0 1001) 2 []
    -- the earlier release's words are no record of this one
    ∷ refused_by choice_rules store tick (one_job 2) 2 []
    ∷ refused_by choice_rules store tick (new_job 2 4294967296) 2 []
    ∷ case_by choice_rules (submit Binomial (Matrix (pos 8192) (pos 0) (pos 8192)) 4 3 2 six) (new_job 2 999) 0
    (zeros 18
    ++ (5 ∷ 1000 ∷ 4294966297 ∷ 1001 ∷ 3 ∷ 2 ∷ 2 ∷ 1 ∷ 999
    ∷ 10 ∷ 8192 ∷ 0 ∷ 8192 ∷ 4 ∷ 4 ∷ 3 ∷ 2 ∷ 4096
    ∷ zeros 36 ++ (10 ∷ 3 ∷ 6 ∷ [])))
    10 (stored (1 ∷ 2 ∷ []) (1000 ∷ 0 ∷ []) six) six
    ∷ case_by choice_rules (submit Smallest (Matrix (pos 8192) (pos 0) (pos 8192)) 4 3 2 six) (new_job 2 999) 0
    (zeros 18
    ++ (5 ∷ 1000 ∷ 4294966297 ∷ 1001 ∷ 3 ∷ 2 ∷ 2 ∷ 1 ∷ 999
    ∷ 10 ∷ 8192 ∷ 0 ∷ 8192 ∷ 4 ∷ 4 ∷ 3 ∷ 2 ∷ 0
    ∷ zeros 36 ++ (10 ∷ 3 ∷ 6 ∷ [])))
    10 (stored (1 ∷ 2 ∷ []) (1000 ∷ 0 ∷ []) six) six
    ∷ case_by choice_rules (collect 5 (7 ∷ 8 ∷ [])) (new_job 0 1000) 0 no_new_job 5 store (1000 ∷ 0 ∷ [])
    ∷ case_by choice_rules (withdraw 5) (new_job 3 999) 0 no_new_job 5 store []
    ∷ []

unfoldable pub left_by : Case → Exported
left_by c = exported_call c.rules c.call c.words before c.store

-- ---- free counts and openings
-- what the free count returns and what stands in the count lent to it, which held 77
pub record CountCase : Type 0 where
  pub rules : Rules
  pub words : List ℕ
  pub code : ℕ
  pub count : ℕ

abbrev pub count : Rules → List ℕ → ℕ → ℕ → CountCase
count rules words code number = record { rules = rules; words = words; code = code; count = number }

-- "16 less 2 for each filled seat"
abbrev pub counts : List CountCase
counts =
    count base_rules no_job 0 16
    ∷ count base_rules (one_job 2) 0 14
    ∷ count base_rules (one_job 0) 0 14
    ∷ count base_rules not_in_order 2 77
    ∷ count base_rules too_few 2 77
    ∷ count base_rules too_many 2 77
    ∷ count base_rules too_wide 2 77
    ∷ count choice_rules no_new_job 0 16
    ∷ count choice_rules (new_job 2 1000) 0 14
    ∷ count choice_rules (new_job 2 998) 2 77
    ∷ count choice_rules stale_free 2 77
    ∷ count choice_rules no_job 2 77
    ∷ []

unfoldable pub counted : CountCase → CountCase
counted c =
    count c.rules c.words (count_number (count_words c.rules c.words)) (value_or (count_values (count_words c.rules c.words)) before)

-- what the opening returns, and the words after it
pub record OpeningCase : Type 0 where
  pub rules : Rules
  pub words : List ℕ
  pub code : ℕ
  pub after : List ℕ

abbrev pub opening : Rules → List ℕ → ℕ → List ℕ → OpeningCase
opening rules words code after = record { rules = rules; words = words; code = code; after = after }

-- "Opening: all empty, last number 0, both named seats 7", over words of any value, 67 by the base rules and 75 by this library's; 9 for another
-- number of words
abbrev pub openings : List OpeningCase
openings =
    opening base_rules (replicate 67 5) 0 (zeros 65 ++ (7 ∷ 7 ∷ []))
    ∷ opening base_rules (one_job 2) 0 (zeros 65 ++ (7 ∷ 7 ∷ []))
    ∷ opening base_rules (replicate 66 5) 9 (replicate 66 5)
    ∷ opening base_rules [] 9 []
    ∷ opening choice_rules (replicate 75 5) 0 (zeros 73 ++ (7 ∷ 7 ∷ []))
    ∷ opening choice_rules (replicate 67 5) 9 (replicate 67 5)
    ∷ opening choice_rules (replicate 76 5) 9 (replicate 76 5)
    ∷ []

unfoldable pub opened_by : OpeningCase → OpeningCase
opened_by c = opening c.rules c.words (opening_code c.rules c.words) (opening_words c.rules c.words)

-- ---- the change-over: old words, what it returns, and the words lent for the new record after it
pub record ChangeCase : Type 0 where
  pub old : List ℕ
  pub lent : List ℕ
  pub code : ℕ
  pub after : List ℕ

abbrev pub change : List ℕ → List ℕ → ℕ → List ℕ → ChangeCase
change old lent code after = record { old = old; lent = lent; code = code; after = after }

abbrev pub lent75 : List ℕ
lent75 = replicate 75 5

-- "with the smallest f in each filled seat", here 999; "turn order and job numbers carry on": 9, 2 and 6; a half-done job keeps its steps left
abbrev pub changes_over : List ChangeCase
changes_over =
    change (one_job 2) lent75 0 (new_job 2 999)
    ∷ change (one_job 0) lent75 0 (new_job 0 999)
    ∷ change no_job lent75 0 no_new_job
    -- "one not in order by the old rule gets 2", before 9, and so do words that are no old record
    ∷ change not_in_order lent75 2 lent75
    ∷ change too_few lent75 2 lent75
    ∷ change too_many lent75 2 lent75
    ∷ change too_wide lent75 2 lent75
    ∷ change (new_job 2 999) lent75 2 lent75
    ∷ change not_in_order (replicate 74 5) 2 (replicate 74 5)
    ∷ change (one_job 2) (replicate 74 5) 9 (replicate 74 5)
    ∷ change (one_job 2) (replicate 76 5) 9 (replicate 76 5)
    ∷ []

unfoldable pub changed_by : ChangeCase → ChangeCase
changed_by c = change c.old c.lent (change_code c.old c.lent) (change_words c.old c.lent)
