-- What an exported call leaves behind: the code that it returns, the words, and the number that it writes. The words are decoded,
-- the state machine's call is made, and its record is encoded again. The calls take the rules, which give the words their layout: the
-- exported calls of this library are those by `current_rules`, the earlier release's those by `base_rules`. Definitions only.
use Rattle.std.specs.Prelude.{◌≡◌, Bool, true, false, cond, ◌&&◌, List, [], ◌∷◌, ℕ, eqb, length, Ok, Err}
use Rattle.kernel.specs.declared.Choice.{Choice}
use Rattle.covariance.specs.declared.Shape.{Shape}
use Rattle.limits.specs.Errors.{number_of, outcome_number, ◌otherwise◌, first_refusal}
use Rattle.limits.specs.declared.ErrorCode.TheVariants.{RecordOutOfOrder, WrongLength}
use Rattle.machine.specs.declared.Service.{Service}
use Rattle.machine.specs.Answers.{answer_number}
use Rattle.machine.specs.Rules.{Rules, base_rules, current_rules}
use Rattle.machine.specs.Slots.{opening}
use Rattle.machine.specs.Order.{in_order}
use Rattle.machine.specs.Change.{changed_over}
use Rattle.machine.specs.Calls.{Result, submit_of, tick_of, collect_of, withdraw_of, free_count_of}
use Rattle.record_words.specs.Words.{word_count, fields_fit, service_of, with_service}
use Rattle.limits.specs.Errors.{Outcome}
use Rattle.machine.specs.declared.Answer.TheVariants.{Job, Idle}
use Rattle.machine.specs.Answers.{Answered, FreeCount}

-- the job number, 0 for idle; a refusal leaves what stood there
abbrev pub number_after : Answered → ℕ → ℕ
number_after (Ok (Job n)) old = n
number_after (Ok Idle) old = 0
number_after (Err code) old = old

-- the words, written only where a job was answered
abbrev pub words_after : Rules → Answered → Service → List ℕ → List ℕ
words_after rules (Ok (Job n)) r words = with_service rules r words
words_after rules (Ok Idle) r words = words
words_after rules (Err code) r words = words

pub record Exported : Type 0 where
  pub code : ℕ
  pub words : List ℕ
  pub number : ℕ
  pub store : List ℕ
  pub lent : List ℕ

abbrev pub exported_of : Rules → List ℕ → ℕ → Result → Exported
exported_of rules words old r =
    record {
      code = answer_number r.answer;
      words = words_after rules r.answer r.service words;
      number = number_after r.answer old;
      store = r.store;
      lent = r.lent;
    }

abbrev pub if_fit : Bool → Exported → Exported → Exported
if_fit true called refused = called
if_fit false called refused = refused

-- a call of the state machine on the record that the words hold; refusal 2 where they hold none
unfoldable pub through_words : Rules → (Service → Result) → List ℕ → ℕ → List ℕ → List ℕ → Exported
through_words rules call words old store lent =
    if_fit (fields_fit rules words) (exported_of rules words old (call (service_of rules words)))
    (record { code = number_of RecordOutOfOrder; words = words; number = old; store = store; lent = lent })

-- that a call returned this code and left these words and this number
pub record Leaves (e : Exported) (code : ℕ) (words : List ℕ) (number : ℕ) : Type 0 where
  pub code_is : code ≡ e.code
  pub words_are : words ≡ e.words
  pub number_is : number ≡ e.number

abbrev pub submit_words : Rules → List ℕ → ℕ → List ℕ → Choice → Shape → ℕ → ℕ → ℕ → List ℕ → Exported
submit_words rules words old store choice shape k w h pixels =
    through_words rules (λ r. submit_of rules r store choice shape k w h pixels) words old store pixels

abbrev pub tick_words : Rules → List ℕ → ℕ → List ℕ → Exported
tick_words rules words old store = through_words rules (λ r. tick_of rules r store) words old store []

abbrev pub collect_words : Rules → List ℕ → ℕ → List ℕ → ℕ → List ℕ → Exported
collect_words rules words old store job lent = through_words rules (λ r. collect_of rules r store job lent) words old store lent

-- no store is lent
abbrev pub withdraw_words : Rules → List ℕ → ℕ → ℕ → Exported
withdraw_words rules words old job = through_words rules (λ r. withdraw_of rules r [] job) words old [] []

-- ---- the opening
abbrev pub opening_code : Rules → List ℕ → ℕ
opening_code rules words = cond (eqb (length words) (word_count rules)) 0 (number_of WrongLength)

abbrev pub opening_words : Rules → List ℕ → List ℕ
opening_words rules words = cond (eqb (length words) (word_count rules)) (with_service rules (opening rules) words) words

-- ---- the free count
abbrev pub count_if_fit : Bool → FreeCount → FreeCount
count_if_fit true count = count
count_if_fit false count = Err RecordOutOfOrder

unfoldable pub count_words : Rules → List ℕ → FreeCount
count_words rules words = count_if_fit (fields_fit rules words) (free_count_of rules (service_of rules words))

-- ---- the change-over: old words by the base rules, and words lent for the new record. "one not in order by the old rule gets 2"; 9 where
-- those lent are not as many as a new record has
unfoldable pub old_fine : List ℕ → Bool
old_fine old = fields_fit base_rules old && in_order base_rules (service_of base_rules old)

unfoldable pub change_word_checks : List ℕ → ℕ → Outcome
change_word_checks old count =
    first_refusal ((old_fine old otherwise RecordOutOfOrder) ∷ (eqb count (word_count current_rules) otherwise WrongLength) ∷ [])

abbrev pub change_code : List ℕ → List ℕ → ℕ
change_code old words = outcome_number (change_word_checks old (length words))

-- the new words, and a refusal leaves what stood there
abbrev pub changed_unless : Outcome → List ℕ → List ℕ → List ℕ
changed_unless (Ok done) old words = with_service current_rules (changed_over (service_of base_rules old)) words
changed_unless (Err code) old words = words

abbrev pub change_words : List ℕ → List ℕ → List ℕ
change_words old words = changed_unless (change_word_checks old (length words)) old words
