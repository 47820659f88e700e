-- The change-over at a place with the invariant: it is accepted where the rules have no choice yet, and the invariant holds after it. Each job
-- sits where it sat, with its picture after so many steps of its own kernel. Assumes nothing.
use mathlib.Core.Path.{◌≡◌, refl, sym, ◌∙◌, ap, subst}
use mathlib.Core.Bool.{Bool, true, false, not, cond, ◌&&◌}
use mathlib.Core.Logic.{inl, inr}
use mathlib.Core.List.{[], ◌∷◌}
use Prim.Native.Nat.{ℕ}
use native.Mathlib.Omega.{arith}
use borrow.Author.Tests.{ne_eqb}
use lib.Dec.{eqb}
use Rattle.limits.specs.Errors.{Outcome, ◌otherwise◌, first_refusal}
use Rattle.limits.specs.declared.ErrorCode.TheVariants.{RecordOutOfOrder}
use Rattle.kernel.specs.declared.Choice.{Choice}
use Rattle.kernel.specs.declared.Choice.TheVariants.{Smallest}
use Rattle.kernel.specs.Choice.{free_by}
use Rattle.covariance.specs.Shapes.{covariance_xx, covariance_xy, covariance_yy}
use Rattle.machine.specs.declared.Slot.{Slot}
use Rattle.machine.specs.Rules.{with_choice}
use Rattle.machine.specs.Slots.{slot_at, is_empty}
use Rattle.machine.specs.Change.{with_free, changed_slot, changed_over, change_checks}
use Rattle.machine.specs.History.{Place, changing, changed_place, onward, job_of, steps_left}
use Rattle.machine.specs.Demand.{change_outcome}
use Rattle.machine.proofs.ChangeOver.{slot_changed, many_changed, count_changed}
use Rattle.machine.proofs.Invariant.{Invariant, size, slot_of, Sits, Taken, in_order_lem}
use Rattle.std.specs.Prelude.{Ok, Err}

-- ---- what it does not change, accepted or not
module _ (p : Place) where
  same : {A : Type 0} (f : Place → A) → f (changed_place (Ok tt) p) ≡ f p → f (onward p changing) ≡ f p
  same {A} f e = go (change_checks p.rules p.service)
    where
      go : (o : Outcome) → f (changed_place o p) ≡ f p
      go (Ok done) = e
      go (Err code) = refl

  pub same_history : (onward p changing).history ≡ p.history
  same_history = same (λ q. q.history) refl

  pub same_size : (onward p changing).rules.slot_count ≡ p.rules.slot_count
  same_size = same (λ q. q.rules.slot_count) refl

  pub same_buffers : (onward p changing).rules.buffers_per_slot ≡ p.rules.buffers_per_slot
  same_buffers = same (λ q. q.rules.buffers_per_slot) refl

  pub same_served : (onward p changing).service.served ≡ p.service.served
  same_served = same (λ q. q.service.served) refl

  pub same_number : (i : ℕ) → (slot_at (onward p changing).service i).number ≡ (slot_at p.service i).number
  same_number i = same (λ q. (slot_at q.service i).number) (ap (λ (s : Slot). s.number) (slot_changed p.service i))

module _ (p : Place) (v : Invariant p) where
  pub change_is : change_checks p.rules p.service ≡ change_outcome p.rules
  change_is = rw (in_order_lem p v) (go (not p.rules.holds_choice))
    where
      go : (t : Bool) → first_refusal (((t && true) otherwise RecordOutOfOrder) ∷ []) ≡ first_refusal ((t otherwise RecordOutOfOrder) ∷ [])
      go true = refl
      go false = refl

  module _ (no-choice : p.rules.holds_choice ≡ false) where
    -- a job that sat by rules without a choice has the smallest
    sits_on : (i n : ℕ) (s : Slot) → Sits p.rules p.history p.store i n s → Sits (with_choice p.rules) p.history p.store i n (changed_slot s)
    sits_on i n s x =
        let j = job_of p.history n in
        let filled : eqb n 0 ≡ false = ne_eqb n 0 (λ e. omega (arith, x.positive)) in
        let smallest : Smallest ≡ j.choice = rw no-choice at x.chosen in
        record {
          positive = x.positive;
          known = x.known;
          is_held = x.is_held;
          is =
              ap changed_slot x.is
              ∙ ap (with_free (slot_of p.rules n j (steps_left p.history n)))
              (ap (λ t. cond t 0 (free_by Smallest (covariance_xx j.shape) (covariance_xy j.shape) (covariance_yy j.shape) j.steps)) filled
              ∙ ap (λ (c : Choice). free_by c (covariance_xx j.shape) (covariance_xy j.shape) (covariance_yy j.shape) j.steps) smallest);
          chosen = refl;
          few = x.few;
          fine = x.fine;
          image = x.image;
        }

    takes_on : (i : ℕ) (s : Slot) → Taken p.rules p.history p.store i s → Taken (with_choice p.rules) p.history p.store i (changed_slot s)
    takes_on i s (inl e) = inl (ap changed_slot e)
    takes_on i s (inr w) = inr (w.0, sits_on i w.0 s w.1)

    number_on : (i : ℕ) → (slot_at (changed_over p.service) i).number ≡ (slot_at p.service i).number
    number_on i = ap (λ (s : Slot). s.number) (slot_changed p.service i)

    changed_over_lem : Invariant (changed_place (Ok tt) p)
    changed_over_lem =
        record {
          workable = record { some_slot = v.workable.some_slot; some_buffer = v.workable.some_buffer; in_store = v.workable.in_store };
          as_many = many_changed p.service ∙ v.as_many;
          long = v.long;
          filled = v.filled;
          served = v.served;
          last = v.last;
          given = v.given;
          taken = λ i h. rw (slot_changed p.service i) (takes_on i (slot_at p.service i) (v.taken i h));
          placed = λ n h. let w = v.placed n h in (w.0, w.1, number_on w.0 ∙ w.2, w.3);
          once = λ i j hi hj g e. v.once i j hi hj (rw (number_on i) at g) (sym (number_on i) ∙ e ∙ number_on j);
          counted = count_changed (λ s. not (is_empty s)) (λ s. refl) p.service.slots (size p) ∙ v.counted;
        }

  pub change_keeps : Invariant (onward p changing)
  change_keeps = rw change_is (go p.rules.holds_choice refl)
    where
      outcome : (t : Bool) → p.rules.holds_choice ≡ t → change_outcome p.rules ≡ first_refusal ((not t otherwise RecordOutOfOrder) ∷ [])
      outcome t e = ap (λ x. first_refusal ((not x otherwise RecordOutOfOrder) ∷ [])) e

      go : (t : Bool) → p.rules.holds_choice ≡ t → Invariant (changed_place (change_outcome p.rules) p)
      go true e = subst (λ o. Invariant (changed_place o p)) (sym (outcome true e)) v
      go false e = subst (λ o. Invariant (changed_place o p)) (sym (outcome false e)) (changed_over_lem e)
