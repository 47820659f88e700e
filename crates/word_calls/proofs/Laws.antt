-- A call of the state machine through words. Assumes nothing.
use mathlib.Core.Path.{◌≡◌, refl, sym, ◌∙◌, ap, ap₂}
use mathlib.Core.Bool.{true, false}
use mathlib.Core.List.{List}
use Prim.Native.Nat.{ℕ}
use Rattle.limits.specs.declared.ErrorCode.{ErrorCode}
use Rattle.limits.specs.declared.ErrorCode.TheVariants.{RecordOutOfOrder}
use Rattle.machine.specs.declared.Service.{Service}
use Rattle.machine.specs.Rules.{Rules, current_rules}
use Rattle.machine.specs.Answers.{Answered, answer_number}
use Rattle.machine.specs.Calls.{Result, free_count_of}
use Rattle.record_words.specs.Words.{fields_fit, service_of}
use Rattle.word_calls.specs.Exported.{number_after, words_after, through_words, Leaves, count_words}
use Rattle.std.specs.Prelude.{Err}

-- ---- the free count through words
pub count_unfit : (words : List ℕ) → fields_fit current_rules words ≡ false → count_words current_rules words ≡ Err RecordOutOfOrder
unfolding count_words
count_unfit words e = rw e

pub count_fit : (rules : Rules) (words : List ℕ) → fields_fit rules words ≡ true → (r : Service) → r ≡ service_of rules words
    → count_words rules words ≡ free_count_of rules r
unfolding count_words
count_fit rules words e r held = rw (e, held)

-- ---- calls through words
module _ (call : Service → Result) (words : List ℕ) (old : ℕ) (store lent : List ℕ) where
  -- where the words hold no record
  module _ (unfit : fields_fit current_rules words ≡ false) where
    pub unfit_leaves : Leaves (through_words current_rules call words old store lent) 2 words old
    unfolding through_words
    unfit_leaves = record { code_is = rw unfit; words_are = rw unfit; number_is = rw unfit }

    pub unfit_store : store ≡ (through_words current_rules call words old store lent).store
    unfolding through_words
    unfit_store = rw unfit

    pub unfit_lent : lent ≡ (through_words current_rules call words old store lent).lent
    unfolding through_words
    unfit_lent = rw unfit

  -- where they hold the record r
  module _ (fit : fields_fit current_rules words ≡ true) (r : Service) (held : r ≡ service_of current_rules words) where
    -- what the call leaves is answered, and its words are written
    pub fit_leaves : (left : Result) → left ≡ call r → (answer : Answered) → answer ≡ left.answer → (after : List ℕ) → after ≡ words_after current_rules left.answer left.service words
        → Leaves (through_words current_rules call words old store lent) (answer_number answer) after (number_after answer old)
    unfolding through_words
    fit_leaves left is answer a after w =
        let made : left ≡ call (service_of current_rules words) = rw held at is in
        let answered : answer ≡ (call (service_of current_rules words)).answer = a ∙ ap (λ (x : Result). x.answer) made in
        record {
          code_is = rw fit (ap answer_number answered);
          words_are = rw fit (w ∙ ap (λ (x : Result). words_after current_rules x.answer x.service words) made);
          number_is = rw fit (ap (λ (x : Answered). number_after x old) answered);
        }

    -- where it is refused, the words stay
    pub refused_leaves : (answer : Answered) → answer ≡ (call r).answer → (code : ErrorCode) → answer ≡ Err code
        → Leaves (through_words current_rules call words old store lent) (answer_number answer) words (number_after answer old)
    refused_leaves answer a code e =
        fit_leaves (call r) refl answer a words (sym (ap (λ (x : Answered). words_after current_rules x (call r).service words) (sym a ∙ e)))

    -- and where not, its record is handed out
    pub handed_leaves : (answer : Answered) → answer ≡ (call r).answer → (service : Service) → service ≡ (call r).service → (after : List ℕ) → after ≡ words_after current_rules answer service words
        → Leaves (through_words current_rules call words old store lent) (answer_number answer) after (number_after answer old)
    handed_leaves answer a service b after w =
        fit_leaves (call r) refl answer a after (w ∙ ap₂ (λ (x : Answered) (y : Service). words_after current_rules x y words) a b)

    pub fit_store : (after : List ℕ) → after ≡ (call r).store → after ≡ (through_words current_rules call words old store lent).store
    unfolding through_words
    fit_store after e = rw fit (rw held at e)

    pub fit_lent : (after : List ℕ) → after ≡ (call r).lent → after ≡ (through_words current_rules call words old store lent).lent
    unfolding through_words
    fit_lent after e = rw fit (rw held at e)
