-- The state machine's calls, one test at a time: what each is where the record is usable and a slot was or was not found, and
-- what the answer for a shape says; by the rules that the running calls have, since these are the equations of their code. Assumes nothing.
use mathlib.Core.Path.{◌≡◌, refl, sym, ◌∙◌, ap}
use mathlib.Core.Bool.{true, false, ◌&&◌}
use mathlib.Core.List.{List, [], ◌∷◌, ◌++◌}
use Prim.Native.Nat.{ℕ, ◌+◌}
use native.Mathlib.Omega.{arith}
use borrow.Author.Tests.{eqb-true}
use lib.Dec.{eqb}
use lib.ListN.{length}
use lib.IntN.{ℤ}
use Rattle.std.specs.Prelude.{Option, Some, None, Ok, Err}
use Rattle.kernel.specs.Answer.{kernel_checks}
use Rattle.limits.specs.Errors.{Outcome, ◌otherwise◌, first_refusal}
use Rattle.limits.proofs.Laws.{both_true}
use Rattle.limits.proofs.Checks.{all_hold, or_else, in_turn}
use Rattle.limits.specs.declared.ErrorCode.TheVariants.{RecordOutOfOrder, NoKernel}
use Rattle.kernel.specs.declared.Choice.{Choice}
use Rattle.kernel.specs.Molecule.{units_of}
use Rattle.kernel.specs.Existence.{kernel_exists}
use Rattle.covariance.specs.declared.Shape.{Shape}
use Rattle.covariance.specs.Shapes.{covariance_xx, covariance_xy, covariance_yy}
use Rattle.covariance.specs.Answer.{shape_checks}
use Rattle.machine.specs.declared.Service.{Service}
use Rattle.machine.specs.declared.Slot.{Slot}
use Rattle.machine.specs.Rules.{current_rules}
use Rattle.machine.specs.Store.{store_length}
use Rattle.machine.specs.Order.{in_order, usable, FilledSlot}
use Rattle.machine.specs.Slots.{slot_at}
use Rattle.machine.specs.Calls.{Result, submitted_checks, room_checks, submit_checks, submit_at, submit_of, empty_place, new_slot, tick_at, tick_of, served_place, place_of, unless_refused}
use Rattle.machine.proofs.Rules.{current_workable}
use Rattle.machine.proofs.Orderly.{filled_slot, place_found}
use Rattle.service.specs.Called.{size_checks, fill_at, found_or, job_found}

pub usable_parts : (r : Service) (store : List ℕ) → (in_order current_rules r && eqb (length store) store_length) ≡ true → (in_order current_rules r ≡ true) × (length store ≡ store_length)
usable_parts r store e =
    let w = both_true (in_order current_rules r) (eqb (length store) store_length) e in
    (w.0, eqb-true (length store) store_length w.1)

-- ---- refusal 2
abbrev pub out_of_order : Service → List ℕ → List ℕ → Result
out_of_order r store lent = record { answer = Err RecordOutOfOrder; service = r; store = store; lent = lent }

module _ (r : Service) (store : List ℕ) (bad : (in_order current_rules r && eqb (length store) store_length) ≡ false) where
  pub submit_unusable : (choice : Choice) (shape : Shape) (k w h : ℕ) (pixels : List ℕ) → submit_of current_rules r store choice shape k w h pixels ≡ out_of_order r store pixels
  unfolding submit_of submit_checks usable
  submit_unusable choice shape k w h pixels = rw bad

  pub tick_unusable : tick_of current_rules r store ≡ out_of_order r store []
  unfolding tick_of usable
  tick_unusable = rw bad

-- ---- a usable record
module _ (r : Service) (store : List ℕ) (good : (in_order current_rules r && eqb (length store) store_length) ≡ true) where
  pub tick_found : (f : Option ℕ) → served_place current_rules r ≡ f → tick_of current_rules r store ≡ tick_at current_rules r store f
  unfolding tick_of usable
  tick_found f e = rw (good, e)

  -- a submit whose record and store are usable: its shape is tested, then its sizes, the kernel, and the room
  module _ (choice : Choice) (shape : Shape) (k w h : ℕ) (pixels : List ℕ) where
    abbrev pub shape_outcome : Outcome
    shape_outcome = first_refusal (shape_checks shape)

    abbrev pub size_outcome : Outcome
    size_outcome = first_refusal (size_checks k w h (length pixels))

    abbrev pub kernel_outcome : Outcome
    kernel_outcome = first_refusal ((kernel_exists (covariance_xx shape) (covariance_xy shape) (covariance_yy shape) (units_of k) otherwise NoKernel) ∷ [])

    abbrev pub room_outcome : Outcome
    room_outcome = first_refusal (room_checks current_rules r)

    in_turns : first_refusal (submitted_checks shape k w h pixels (room_checks current_rules r))
        ≡ or_else shape_outcome (or_else size_outcome (or_else kernel_outcome room_outcome))
    in_turns =
        let kernel = (kernel_exists (covariance_xx shape) (covariance_xy shape) (covariance_yy shape) (units_of k) otherwise NoKernel) ∷ [] in
        let room = room_checks current_rules r in
        let sizes = size_checks k w h (length pixels) in
        in_turn (shape_checks shape) (sizes ++ (kernel ++ room))
        ∙ ap (or_else shape_outcome) (in_turn sizes (kernel ++ room) ∙ ap (or_else size_outcome) (in_turn kernel room))

    pub submit_turns : submit_of current_rules r store choice shape k w h pixels
        ≡ unless_refused (or_else shape_outcome (or_else size_outcome (or_else kernel_outcome room_outcome))) r store pixels
        (submit_at current_rules r store choice shape k w h pixels (empty_place current_rules r))
    unfolding submit_of submit_checks usable
    submit_turns =
        rw good (ap (λ o. unless_refused o r store pixels (submit_at current_rules r store choice shape k w h pixels (empty_place current_rules r))) in_turns)

-- after the sizes the kernel's checks are refusal 11 alone
pub kernel_alone : (k w h n : ℕ) (x z y : ℤ) → first_refusal (size_checks k w h n) ≡ Ok tt
    → kernel_checks x z y k ≡ first_refusal ((kernel_exists x z y (units_of k) otherwise NoKernel) ∷ [])
kernel_alone k w h n x z y s = rw (all_hold (size_checks k w h n) s).0

-- the slot that a submit fills, with the numbers of its shape at hand
pub fill_is : (r : Service) (store : List ℕ) (choice : Choice) (shape : Shape) (k w h : ℕ) (pixels : List ℕ) (slot : Slot) (f : Option ℕ)
    → slot ≡ new_slot current_rules (r.last + 1) choice shape k w h → fill_at r store slot pixels f ≡ submit_at current_rules r store choice shape k w h pixels f
fill_is r store choice shape k w h pixels slot (Some i) e = rw e
fill_is r store choice shape k w h pixels slot None e = refl

-- ---- the slot of a job that is held
pub job_slot : (r : Service) (n i : ℕ) → in_order current_rules r ≡ true → job_found r n ≡ Ok i → FilledSlot current_rules r.last (slot_at r i)
job_slot r n i ordered e = go (place_of current_rules r n) refl e
  where
    go : (f : Option ℕ) → place_of current_rules r n ≡ f → found_or f ≡ Ok i → FilledSlot current_rules r.last (slot_at r i)
    go (Some j) found e =
        let same : j ≡ i = cc in
        let w = place_found current_rules current_workable r n i (rw same at found) in
        filled_slot current_rules r ordered i w.0 (λ z. w.2 (sym w.1 ∙ z))
    go None found e = absurd (let z : ◌≡◌ {A = ℕ} 0 1 = cc in omega arith)
