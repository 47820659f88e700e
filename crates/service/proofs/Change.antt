-- The change-over as the code makes it is the state machine's. The code tests the record that it makes, by the new rules, and not the old one: a slot without a
-- kernel has f 0 in it and another f by the definition, and is refused either way; so the one test answers refusal 2 of the old record, and a record that
-- passes it is the one of the definition. Assumes nothing.
use mathlib.Core.Path.{◌≡◌, refl, sym, ◌∙◌, ap}
use mathlib.Core.Bool.{Bool, true, false, cond, ◌&&◌}
use mathlib.Core.List.{List, map}
use Prim.Native.Nat.{ℕ, ◌<◌}
use native.Mathlib.Omega.{arith}
use borrow.Author.Tests.{eqb-false}
use lib.Dec.{eqb, leb}
use lib.ListN.{length, length-map}
use Rattle.std.specs.Result.{result_unwrap_or}
use Rattle.limits.specs.Limits.{steps_in_range, sides_in_range, fits_buffer}
use Rattle.kernel.specs.declared.Choice.TheVariants.{Smallest}
use Rattle.kernel.specs.Molecule.{units_of}
use Rattle.kernel.specs.Existence.{kernel_exists, free_fits}
use Rattle.kernel.specs.Choice.{free_by}
use Rattle.kernel.specs.Answer.{free_answer}
use Rattle.kernel.proofs.Answers.{present}
use Rattle.machine.specs.declared.Slot.{Slot}
use Rattle.machine.specs.declared.Service.{Service}
use Rattle.machine.specs.Rules.{base_rules, current_rules}
use Rattle.machine.specs.Slots.{slot_count, empty_slot, slot_at, is_empty, has_number, count_of}
use Rattle.machine.specs.Order.{is_zero, all_zero, filled_fine, unshared, slot_fine, in_order}
use Rattle.machine.specs.Change.{with_free, changed_slot, changed_over}
use Rattle.machine.proofs.Search.{count_same}
use Rattle.machine.proofs.Counts.{every_same}
use Rattle.machine.proofs.Orderly.{filled_slot}
use Rattle.machine.proofs.ChangeOver.{mapped_at, slot_changed, order_changed}
use Rattle.machine.proofs.Mapped.{mapped_by}
use Rattle.service.specs.Given.{slot_given, service_given}

-- ---- one slot
module _ (s : Slot) where
  abbrev steps : Bool
  steps = steps_in_range s.steps

  abbrev exists : Bool
  exists = kernel_exists s.xx s.xy s.yy (units_of s.steps)

  abbrev fits : ℕ → Bool
  fits f = free_fits s.xx s.xy s.yy f (units_of s.steps)

  abbrev given : ℕ
  given = result_unwrap_or (free_answer Smallest s.xx s.xy s.yy s.steps) 0

  abbrev smallest : ℕ
  smallest = free_by Smallest s.xx s.xy s.yy s.steps

  -- where a kernel exists the call answers the smallest f
  given_smallest : steps ≡ true → exists ≡ true → given ≡ smallest
  given_smallest a b = ap (λ answer. result_unwrap_or answer 0) (present smallest s.xx s.xy s.yy s.steps a b)

  -- and where none does no f passes
  alike : (steps && (exists && fits given)) ≡ (steps && (exists && fits smallest))
  alike = go steps exists refl refl
    where
      go : (a b : Bool) → steps ≡ a → exists ≡ b → (a && (b && fits given)) ≡ (a && (b && fits smallest))
      go true true p q = ap fits (given_smallest p q)
      go true false p q = refl
      go false b p q = refl

-- of an empty slot, whose f is 0 either way, and of a filled one
of_each : (zeros filled : ℕ → Bool) (f g : ℕ) → filled f ≡ filled g → (t : Bool)
    → cond t (zeros (cond t 0 f)) (filled (cond t 0 f)) ≡ cond t (zeros (cond t 0 g)) (filled (cond t 0 g))
of_each zeros filled f g e true = refl
of_each zeros filled f g e false = e

module _ (r : Service) where
  slot_given_lem : (i : ℕ) → slot_at (service_given r) i ≡ slot_given (slot_at r i)
  slot_given_lem i = mapped_at slot_given empty_slot r.slots i

  -- no number changes
  counts : (n : ℕ) → count_of (has_number n) (service_given r).slots slot_count ≡ count_of (has_number n) (changed_over r).slots slot_count
  counts n =
      count_same (has_number n) (has_number n) (service_given r).slots (changed_over r).slots slot_count
      (λ i h. ap (has_number n) (slot_given_lem i) ∙ sym (ap (has_number n) (slot_changed r i)))

  fine_given : (s : Slot) → slot_fine current_rules (service_given r) (slot_given s) ≡ slot_fine current_rules (changed_over r) (changed_slot s)
  unfolding slot_fine all_zero filled_fine
  fine_given s =
      let rest = sides_in_range s.width s.height && (fits_buffer s.width s.height && (leb s.number r.last && leb s.left s.steps)) in
      let single = unshared current_rules (changed_over r).slots s in
      rw (counts s.number)
      (of_each
      (λ f. is_zero s.xx && (is_zero s.xy && (is_zero s.yy && (eqb s.steps 0 && (eqb s.left 0 && (eqb s.width 0 && (eqb s.height 0 && eqb f 0)))))))
      (λ f. ((steps s && (exists s && fits s f)) && rest) && single) (given s) (smallest s)
      (ap (λ b. (b && rest) && single) (alike s)) (is_empty s))

-- ---- the record
same_order : (r : Service) → in_order current_rules (service_given r) ≡ in_order current_rules (changed_over r)
unfolding in_order
same_order r = rw (every_same fine fine' slot_count (λ f i h. sym (same i h) ∙ f i h) (λ f i h. same i h ∙ f i h))
  where
    fine : ℕ → Bool
    fine i = slot_fine current_rules (service_given r) (slot_at (service_given r) i)

    fine' : ℕ → Bool
    fine' i = slot_fine current_rules (changed_over r) (slot_at (changed_over r) i)

    same : (i : ℕ) → i < slot_count → fine i ≡ fine' i
    same i h = ap (slot_fine current_rules (service_given r)) (slot_given_lem r i) ∙ fine_given r (slot_at r i) ∙ sym (ap (slot_fine current_rules (changed_over r)) (slot_changed r i))

-- THE RECORD THAT THE CODE MAKES IS IN ORDER EXACTLY WHERE THE OLD ONE IS BY THE OLD RULE
pub given_order : (r : Service) → in_order current_rules (service_given r) ≡ in_order base_rules r
given_order r = same_order r ∙ order_changed base_rules refl r

-- AND IS THEN THE ONE OF THE DEFINITION
pub given_is : (r : Service) → length r.slots ≡ slot_count → in_order base_rules r ≡ true → service_given r ≡ changed_over r
given_is r long ordered =
    ap (λ (l : List Slot). record { slots = l; last = r.last; filled = r.filled; served = r.served })
    (mapped_by changed_slot empty_slot r.slots (map slot_given r.slots) (length-map r.slots slot_given)
    (λ i h. slot_given_lem r i ∙ ap (with_free (slot_at r i)) (go i (omega (arith, long, h)) (is_empty (slot_at r i)) refl)))
  where
    go : (i : ℕ) → i < slot_count → (t : Bool) → is_empty (slot_at r i) ≡ t → cond t 0 (given (slot_at r i)) ≡ cond t 0 (smallest (slot_at r i))
    go i h true e = refl
    go i h false e =
        let f = filled_slot base_rules r ordered i h (eqb-false (slot_at r i).number 0 e) in
        given_smallest (slot_at r i) f.steps f.kernel
