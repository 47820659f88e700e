-- A tick through words that hold a record: what it leaves where it is refused, where it is idle, and where a slot is served, by what is read
-- of the words alone. Assumes nothing.
use mathlib.Core.Path.{◌≡◌, refl, sym, ◌∙◌, ap}
use mathlib.Core.Bool.{true, false, ◌&&◌}
use mathlib.Core.List.{List, []}
use Prim.Native.Nat.{ℕ, ◌+◌, ◌-◌, ◌<◌}
use lib.Dec.{eqb}
use lib.ListN.{length}
use Rattle.machine.specs.declared.Slot.{Slot}
use Rattle.machine.specs.declared.Service.{Service}
use Rattle.machine.specs.Rules.{current_rules}
use Rattle.machine.specs.Slots.{slot_count, slot_at}
use Rattle.machine.specs.Store.{store_length, put, buffer_after, steps_done}
use Rattle.machine.specs.Order.{in_order}
use Rattle.machine.specs.Calls.{Result, tick_at, tick_of, served_place, next_image}
use Rattle.machine.proofs.Rules.{current_workable}
use Rattle.machine.proofs.Orderly.{left_filled, filled_slot, served_found}
use Rattle.buffers.specs.Places.{Ready}
use Rattle.service.proofs.Laws.{out_of_order, usable_parts, tick_unusable, tick_found}
use Rattle.record_words.specs.Words.{fields_fit, slot_of, service_of, with_turn}
use Rattle.record_words.proofs.Fields.{held_slot}
use Rattle.record_words.proofs.Turns.{turn_written}
use Rattle.word_calls.specs.Exported.{Leaves, tick_words, number_after, words_after}
use Rattle.word_calls.proofs.Laws.{fit_leaves, fit_store}
use Rattle.limits.specs.declared.ErrorCode.TheVariants.{RecordOutOfOrder}
use Rattle.machine.specs.declared.Answer.TheVariants.{Job, Idle}
use Rattle.machine.specs.Answers.{Answered, answer_number}
use Rattle.std.specs.Prelude.{Some, None, Ok, Err}

module _ (words store : List ℕ) (fit : fields_fit current_rules words ≡ true) where
  abbrev held : Service
  held = service_of current_rules words

  abbrev call : Service → Result
  call r = tick_of current_rules r store

  -- what a tick answers and leaves
  abbrev Left : Answered → List ℕ → List ℕ → Type 0
  Left answer after stored =
      (lent : ℕ) → Leaves (tick_words current_rules words lent store) (answer_number answer) after (number_after answer lent) × (stored ≡ (tick_words current_rules words lent store).store)

  left_by : (left : Result) → left ≡ call held → (answer : Answered) → answer ≡ left.answer → (after : List ℕ) → after ≡ words_after current_rules left.answer left.service words
      → (stored : List ℕ) → stored ≡ left.store → Left answer after stored
  left_by left is answer a after w stored b lent = (
    fit_leaves call words lent store [] fit held refl left is answer a after w,
    fit_store call words lent store [] fit held refl stored (b ∙ ap (λ (x : Result). x.store) is),
  )

  pub tick_refused : (in_order current_rules held && eqb (length store) store_length) ≡ false → Left (Err RecordOutOfOrder) words store
  tick_refused bad = left_by (out_of_order held store []) (sym (tick_unusable held store bad)) (Err RecordOutOfOrder) refl words refl store refl

  module _ (good : (in_order current_rules held && eqb (length store) store_length) ≡ true) where
    pub tick_idle : served_place current_rules held ≡ None → Left (Ok Idle) words store
    tick_idle e = left_by (tick_at current_rules held store None) (sym (tick_found held store good None e)) (Ok Idle) refl words refl store refl

    module _ (i : ℕ) (found : served_place current_rules held ≡ Some i) where
      pub served_at : (i < slot_count) × (0 < (slot_at held i).left)
      served_at = served_found current_rules current_workable held i found

      module _ (s : Slot) (read : s ≡ slot_of current_rules words i) where
        same : s ≡ slot_at held i
        same = read ∙ sym (held_slot words i served_at.0)

        -- its picture can be taken one step on
        pub ready : Ready (length store) s i
        ready =
            let u = usable_parts held store good in
            let h = served_at in
            rw same (
            record {
              long = u.1;
              at = h.0;
              left = h.1;
              last = held.last;
              filled = filled_slot current_rules held u.0 i h.0 (left_filled current_rules held u.0 i h.0 h.1);
            }
            )

        pub tick_served : (after stored : List ℕ) → after ≡ with_turn current_rules i (s.left - 1) words
            → stored ≡ put (buffer_after current_rules i (steps_done s + 1)) (next_image current_rules store i s) store → Left (Ok (Job s.number)) after stored
        tick_served after stored a b =
            left_by (tick_at current_rules held store (Some i)) (sym (tick_found held store good (Some i) found))
            (Ok (Job s.number)) (ap (λ (x : Slot). Ok (Job x.number)) same)
            after (rw same at (a ∙ sym (turn_written words fit i (s.left - 1) served_at.0 held refl)))
            stored (rw same at b)
