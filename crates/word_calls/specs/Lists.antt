-- Demand 3 of lists of exported calls, as one claim: from the exported opening on, by the earlier release's words or this library's, with calls
-- in any order, each lent a number of its own, and the exported change-over at any place; and with all words of the claim taken from what
-- the caller handed in, was returned and found written. Definitions only; `proofs/Lists` shows it of every list.
use Rattle.std.specs.Prelude.{◌≡◌, true, not, cond, List, [], ◌∷◌, ◌++◌, ℕ, zero, suc, ◌-◌, ◌*◌, eqb, length, Ok, Err}
use Rattle.limits.specs.Errors.{value_or, outcome_number, ◌otherwise◌, first_refusal}
use Rattle.limits.specs.declared.ErrorCode.{ErrorCode}
use Rattle.limits.specs.declared.ErrorCode.TheVariants.{TextIsNoJob, RecordOutOfOrder, VarianceOutOfRange, NotADirection, StepsOutOfRange, SideOutOfRange, NoSuchJob, StepsAreLeft, WrongLength, TooManyPixels, NoKernel, NoFreeBuffers, NumbersUsedUp, CannotGoBack}
use Rattle.machine.specs.Answers.{answer_number, count_number, count_values}
use Rattle.machine.specs.Rules.{Rules, with_choice, current_rules}
use Rattle.machine.specs.Store.{buffer_count, store_length}
use Rattle.machine.specs.Calls.{Call, submit, tick, collect, withdraw}
use Rattle.machine.specs.History.{Event, Place, Entry, calling, changing, opened, after, since, held_count}
use Rattle.machine.specs.Demand.{answer_at, lent_after, lent_to, AtPlace, Opening}
use Rattle.record_words.specs.Words.{word_count, fields_fit, service_of}
use Rattle.word_calls.specs.Exported.{Exported, number_after, opening_code, opening_words, submit_words, tick_words, collect_words, withdraw_words, count_words, change_code, change_words}
use Rattle.limits.specs.Errors.{Outcome}
use Rattle.machine.specs.declared.Answer.TheVariants.{Job, Idle}
use Rattle.machine.specs.Answers.{Answered}

-- ---- one call
-- a call, and what the number that is lent to it holds before: a fresh one for each call, or not
pub record ExportedCall : Type 0 where
  pub call : Call
  pub number : ℕ

-- what the caller has after a call: what the call's contract gives, and what was lent for reading alone as it was
abbrev pub leaving : Exported → List ℕ → List ℕ → Exported
leaving e store lent = record { code = e.code; words = e.words; number = e.number; store = store; lent = lent }

-- each call as it is exported, by the release whose rules the words have: a collect is lent the store for reading, a withdraw is not lent it
abbrev pub exported_call : Rules → Call → List ℕ → ℕ → List ℕ → Exported
exported_call rules (submit choice shape k w h pixels) words number store =
    leaving (submit_words rules words number store choice shape k w h pixels) (submit_words rules words number store choice shape k w h pixels).store pixels
exported_call rules tick words number store = leaving (tick_words rules words number store) (tick_words rules words number store).store []
exported_call rules (collect job lent) words number store =
    leaving (collect_words rules words number store job lent) store (collect_words rules words number store job lent).lent
exported_call rules (withdraw job) words number store = leaving (withdraw_words rules words number job) store []

-- ---- what the caller saw
-- the refusal that a code other than 0 names
unfoldable pub error_numbered : ℕ → ErrorCode
error_numbered code =
    cond (eqb code 1) TextIsNoJob
    (cond (eqb code 2) RecordOutOfOrder
    (cond (eqb code 3) VarianceOutOfRange
    (cond (eqb code 4) NotADirection
    (cond (eqb code 5) StepsOutOfRange
    (cond (eqb code 6) SideOutOfRange
    (cond (eqb code 7) NoSuchJob
    (cond (eqb code 8) StepsAreLeft
    (cond (eqb code 9) WrongLength
    (cond (eqb code 10) TooManyPixels
    (cond (eqb code 11) NoKernel
    (cond (eqb code 12) NoFreeBuffers
    (cond (eqb code 13) NumbersUsedUp CannotGoBack))))))))))))

-- the answer that a returned code and the number after the call tell: code 0 is a job with that number, or idle where it is 0
unfoldable pub answer_seen : ℕ → ℕ → Answered
answer_seen code number = cond (eqb code 0) (cond (eqb number 0) (Ok Idle) (Ok (Job number))) (Err (error_numbered code))

-- what the caller keeps from one call to the next, the rules of its words, the words and the store, and what it saw so far, the latest first
pub record Kept : Type 0 where
  pub rules : Rules
  pub words : List ℕ
  pub store : List ℕ
  pub history : List Event

abbrev pub exported_at : Kept → ExportedCall → Exported
exported_at k c = exported_call k.rules c.call k.words c.number k.store

abbrev pub event_seen : Kept → ExportedCall → Event
event_seen k c =
    record {
      rules = k.rules;
      call = c.call;
      answer = answer_seen (exported_at k c).code (exported_at k c).number;
      lent = (exported_at k c).lent;
    }

-- "Accepted, idle or refused, each passes its record and store to the next"
abbrev pub kept_after : Kept → ExportedCall → Kept
kept_after k c =
    record { rules = k.rules; words = (exported_at k c).words; store = (exported_at k c).store; history = event_seen k c ∷ k.history }

-- an entry of the list: a call, or the change-over with the words that are lent for the new record
pub data ExportedEntry : Type 0 where
  calls : ExportedCall → ExportedEntry
  changes : List ℕ → ExportedEntry

-- the change-over reads the words that the caller keeps. Where it returns 0 the caller goes on with those that it wrote, by the new rules;
-- else with what it had
abbrev pub kept_changed : ℕ → Kept → List ℕ → Kept
kept_changed zero k words = record { rules = with_choice k.rules; words = change_words k.words words; store = k.store; history = k.history }
kept_changed (suc code) k words = k

abbrev pub kept_onward : Kept → ExportedEntry → Kept
kept_onward k (calls c) = kept_after k c
kept_onward k (changes words) = kept_changed (change_code k.words words) k words

unfoldable pub kept_through : Kept → List ExportedEntry → Kept
kept_through k [] = k
kept_through k (e ∷ es) = kept_through (kept_onward k e) es

-- what the caller sees of a list from a place on, the latest first
abbrev pub events_seen : Kept → ExportedEntry → List Event
events_seen k (calls c) = event_seen k c ∷ []
events_seen k (changes words) = []

unfoldable pub seen_since : Kept → List ExportedEntry → List Event
seen_since k [] = []
seen_since k (e ∷ es) = seen_since (kept_onward k e) es ++ events_seen k e

-- "The list starts with the opening's record": the exported opening wrote the words
abbrev pub kept_at_opening : Rules → List ℕ → List ℕ → Kept
kept_at_opening rules words store = record { rules = rules; words = opening_words rules words; store = store; history = [] }

-- ---- the claim
-- the state machine's entry of an exported one. A change-over with words of another number lent changes nothing, and is none of the
-- machine's
abbrev pub entry_of : ExportedEntry → List Entry
entry_of (calls c) = calling c.call ∷ []
entry_of (changes words) = cond (eqb (length words) (word_count current_rules)) (changing ∷ []) []

unfoldable pub entries_of : List ExportedEntry → List Entry
entries_of [] = []
entries_of (e ∷ es) = entry_of e ++ entries_of es

-- the caller's place in the list as a place of the state machine's: the rules of its words, the record that they hold, its store, and what
-- it saw
abbrev pub place_seen : Kept → Place
place_seen k = record { rules = k.rules; service = service_of k.rules k.words; store = k.store; history = k.history }

-- the change-over at a place: 2 where it was made already, 9 where the words lent for it are not 75, else accepted
abbrev pub change_expected : Rules → List ℕ → Outcome
change_expected rules words =
    first_refusal ((not rules.holds_choice otherwise RecordOutOfOrder) ∷ (eqb (length words) (word_count current_rules) otherwise WrongLength) ∷ [])

-- what is claimed after these entries from an opening with these rules and this store on, of whatever is called there with whatever number is
-- lent
pub record AtExportedPlace (rules : Rules) (store : List ℕ) (entries : List ExportedEntry) (k : Kept) : Type 0 where
  pub words_are_fit : fields_fit k.rules k.words ≡ true
  -- the record, the store and call for call what the caller saw are the state machine's after the same entries
  pub same_place : place_seen k ≡ after (opened rules store) (entries_of entries)
  -- demand 3: its words, as `held`, `steps_left` and `job_of`, are taken from what the caller saw. The lone service's list is one of
  -- these lists too
  pub demand : AtPlace (place_seen k)
  -- whatever follows: the caller has and sees what demand 3 says of it, as in the wait
  pub goes_on : (more : List ExportedEntry) → place_seen (kept_through k more) ≡ after (place_seen k) (entries_of more)
  pub seen_since_is : (more : List ExportedEntry) → seen_since k more ≡ since (place_seen k) (entries_of more)
  -- what the answers of demand 3 are to the caller: the code returned, the number written and the lent picture
  pub code_is : (c : ExportedCall) → (exported_at k c).code ≡ answer_number (answer_at (place_seen k) c.call)
  pub number_is : (c : ExportedCall) → (exported_at k c).number ≡ number_after (answer_at (place_seen k) c.call) c.number
  pub lent_is : (c : ExportedCall) → (exported_at k c).lent ≡ lent_after (place_seen k) c.call
  -- the exported change-over at this place, with whichever words are lent for the new record
  pub change_code_is : (words : List ℕ) → change_code k.words words ≡ outcome_number (change_expected k.rules words)
  -- "a refusal answers its number alone; record, store and every lent buffer keep their contents"
  pub refused : (c : ExportedCall) → ((exported_at k c).code ≡ 0 → ⊥)
      → exported_at k c
      ≡ record { code = (exported_at k c).code; words = k.words; number = c.number; store = k.store; lent = lent_to c.call }
  -- an idle tick returns 0, writes the number 0 "and then changes nothing"
  pub idle : (c : ExportedCall) → (exported_at k c).code ≡ 0 → (exported_at k c).number ≡ 0
      → exported_at k c ≡ record { code = 0; words = k.words; number = 0; store = k.store; lent = lent_to c.call }
  -- "Free buffers at a place are what the free count, called there as well, answers": it returns 0 and writes 16 less 2 for each
  -- job held, whatever the lent count held before
  pub free_code : count_number (count_words k.rules k.words) ≡ 0
  pub free_buffers_are : (before : ℕ)
      → value_or (count_values (count_words k.rules k.words)) before ≡ buffer_count k.rules - k.rules.buffers_per_slot * held_count k.history

-- as many words of any value as the release has are opened, 67 or 75, and a store of 16,384 pixels of any value is lent: at the place after any
-- list, through the change-over or not
abbrev pub ExportedDemand3 : Type 0
ExportedDemand3 =
    (rules : Rules) → Opening rules → (words store : List ℕ) → length words ≡ word_count rules → length store ≡ store_length
    → (opening_code rules words ≡ 0)
    × ((entries : List ExportedEntry) → AtExportedPlace rules store entries (kept_through (kept_at_opening rules words store) entries))
