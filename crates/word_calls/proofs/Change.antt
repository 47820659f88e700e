-- The exported change-over, one test at a time: old words that are refused, and what the change-over of their record answers handed out.
-- Assumes nothing.
use mathlib.Core.Path.{◌≡◌, refl}
use mathlib.Core.Bool.{Bool, true, false, cond}
use mathlib.Core.List.{List}
use Prim.Native.Nat.{ℕ}
use borrow.Author.Tests.{ne_eqb}
use lib.Dec.{eqb}
use lib.ListN.{length}
use Rattle.limits.specs.Errors.{unless}
use Rattle.limits.specs.declared.ErrorCode.TheVariants.{RecordOutOfOrder, WrongLength}
use Rattle.limits.specs.declared.ErrorCode.{ErrorCode}
use Rattle.machine.specs.declared.Service.{Service}
use Rattle.machine.specs.Rules.{base_rules, current_rules}
use Rattle.machine.specs.Order.{in_order}
use Rattle.machine.specs.Change.{changed_over, change_checks, change_with}
use Rattle.record_words.specs.Words.{word_count, fields_fit, service_of, with_service}
use Rattle.word_calls.specs.Exported.{old_fine, change_word_checks, changed_unless, change_words}
use Rattle.std.specs.Prelude.{Result, Ok, Err}

module _ (old words : List ℕ) where
  pub short_old : (length old ≡ word_count base_rules → ⊥) → old_fine old ≡ false
  unfolding old_fine fields_fit
  short_old ne = rw (ne_eqb (length old) (word_count base_rules) ne)

  pub unfit_old : fields_fit base_rules old ≡ false → old_fine old ≡ false
  unfolding old_fine
  unfit_old e = rw e

  pub refused_old : old_fine old ≡ false → (Err RecordOutOfOrder ≡ change_word_checks old (length words)) × (words ≡ change_words old words)
  unfolding change_word_checks
  refused_old e = rw e (refl, refl)

  abbrev record_held : Service
  record_held = service_of base_rules old

  -- the outcome and the words that a change-over's answer is handed out with: a record is written where there are as many words
  abbrev HandedOut : Result Service ErrorCode → Type 0
  HandedOut (Ok r) =
      (cond (eqb (length words) (word_count current_rules)) (Ok tt) (Err WrongLength) ≡ change_word_checks old (length words))
      × (cond (eqb (length words) (word_count current_rules)) (with_service current_rules r words) words ≡ change_words old words)
  HandedOut (Err code) = (Err code ≡ change_word_checks old (length words)) × (words ≡ change_words old words)

  by_length : (t : Bool)
      → (cond t (Ok tt) (Err WrongLength) ≡ unless t (Err WrongLength) (Ok tt))
      × (cond t (with_service current_rules (changed_over record_held) words) words ≡ changed_unless (unless t (Err WrongLength) (Ok tt)) old words)
  by_length true = (refl, refl)
  by_length false = (refl, refl)

  pub handed_out : fields_fit base_rules old ≡ true → (answer : Result Service ErrorCode) → answer ≡ change_with (change_checks base_rules record_held) (changed_over record_held)
      → HandedOut answer
  unfolding change_word_checks old_fine
  handed_out fit answer is = rw is (by_order (in_order base_rules record_held) refl)
    where
      by_order : (t : Bool) → in_order base_rules record_held ≡ t → HandedOut (change_with (unless t (Err RecordOutOfOrder) (Ok tt)) (changed_over record_held))
      by_order true e = rw (fit, e) (by_length (eqb (length words) (word_count current_rules)))
      by_order false e = rw (fit, e) (refl, refl)
