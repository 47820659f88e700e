-- The state machine's record, at every place of a list, is within the fields of its words. Assumes nothing.
use mathlib.Core.Path.{◌≡◌, refl, sym, ◌∙◌, ap}
use mathlib.Core.Bool.{Bool, true, false, cond, true≢false}
use mathlib.Core.Logic.{inl, inr}
use mathlib.Core.List.{List}
use Prim.Native.Nat.{ℕ, ◌*◌, ◌^◌, ◌<◌, ◌≤◌}
use native.Mathlib.Nat.{mul-le-mul_left}
use native.Mathlib.Omega.{arith}
use lib.IntN.{ℤ, pos, negsuc, nat_abs}
use mir.Syntax.{w32}
use mir.Val.{SFits}
use Rattle.limits.specs.Limits.{most_steps, longest_side, side_in_range}
use Rattle.limits.proofs.Laws.{both_true, in_range_lem}
use Rattle.kernel.specs.Molecule.{units_of}
use Rattle.kernel.specs.Existence.{kernel_exists}
use Rattle.kernel.proofs.Plain.{none_x, none_y}
use Rattle.kernel.specs.declared.Choice.{Choice}
use Rattle.kernel.specs.Choice.{free_by}
use Rattle.kernel.proofs.Theorems.{unsigned_conditions}
use Rattle.kernel.proofs.Bounds.{choice_fits, fits_small}
use Rattle.covariance.specs.Shapes.{covariance_xx, covariance_xy, covariance_yy}
use Rattle.machine.specs.declared.Slot.{Slot}
use Rattle.machine.specs.Rules.{Rules}
use Rattle.machine.specs.Slots.{slot_at, empty_slot}
use Rattle.machine.specs.Store.{store_buffers, Workable}
use Rattle.machine.specs.History.{Event, Place, job_of}
use Rattle.machine.proofs.Invariant.{Invariant, Sits, Taken}
use Rattle.record_words.proofs.ReadBack.{SlotFits, Fits}

-- a kernel exists only for numbers of at most M
bounded : (xx xy yy : ℤ) (m : ℕ) → kernel_exists xx xy yy m ≡ true → (nat_abs xx ≤ m) × (nat_abs xy ≤ m) × (nat_abs yy ≤ m)
bounded (pos a) xy (pos b) m e = let w = (unsigned_conditions a xy b m).0 e in (omega (arith, w.0, w.1), omega (arith, w.0, w.1), omega (arith, w.0, w.1))
bounded (pos a) xy (negsuc b) m e = absurd (true≢false (sym e ∙ none_y b (pos a) xy m))
bounded (negsuc a) xy yy m e = absurd (true≢false (sym e ∙ none_x a xy yy m))

signed : (z : ℤ) (m : ℕ) → nat_abs z ≤ m → m < 2 ^ 31 → SFits w32 z
signed (pos n) m h g = record { sfits = omega arith }
signed (negsuc n) m h g = record { sfits = omega arith }

empty_fits : (rules : Rules) → SlotFits rules empty_slot
empty_fits rules =
    record {
      xx_fits = signed (pos 0) 0 (omega arith) (omega arith);
      xy_fits = signed (pos 0) 0 (omega arith) (omega arith);
      yy_fits = signed (pos 0) 0 (omega arith) (omega arith);
      steps_fits = omega arith;
      left_fits = omega arith;
      width_fits = omega arith;
      height_fits = omega arith;
      free_fits_lem = omega arith;
      free_none = λ e. refl;
    }

-- f of a choice is at most M, and there is none by rules without a choice
free_small : (choice : Choice) (xx xy yy : ℤ) (k : ℕ) → kernel_exists xx xy yy (units_of k) ≡ true → units_of k < 2 ^ 31 → (t : Bool)
    → cond t (free_by choice xx xy yy k) 0 < 2 ^ 32
free_small choice xx xy yy k e m true =
    let s = fits_small xx xy yy (free_by choice xx xy yy k) (units_of k) (choice_fits choice xx xy yy k e) in omega arith
free_small choice xx xy yy k e m false = omega arith

sits_fits : (rules : Rules) (es : List Event) (store : List ℕ) (i n : ℕ) (s : Slot) → Sits rules es store i n s → SlotFits rules s
sits_fits rules es store i n s sits =
    let j = job_of es n in
    let f = sits.fine in
    let k : j.steps ≤ most_steps = (in_range_lem 1 most_steps j.steps f.steps).1 in
    let m : units_of j.steps < 2 ^ 31 = omega arith in
    let b = bounded (covariance_xx j.shape) (covariance_xy j.shape) (covariance_yy j.shape) (units_of j.steps) f.kernel in
    let sides = both_true (side_in_range j.width) (side_in_range j.height) f.sides in
    let w = (in_range_lem 1 longest_side j.width sides.0).1 in
    let h = (in_range_lem 1 longest_side j.height sides.1).1 in
    rw sits.is (
    record {
      xx_fits = signed (covariance_xx j.shape) (units_of j.steps) b.0 m;
      xy_fits = signed (covariance_xy j.shape) (units_of j.steps) b.1 m;
      yy_fits = signed (covariance_yy j.shape) (units_of j.steps) b.2 m;
      steps_fits = omega arith;
      left_fits = omega arith;
      width_fits = omega arith;
      height_fits = omega arith;
      free_fits_lem = free_small j.choice (covariance_xx j.shape) (covariance_xy j.shape) (covariance_yy j.shape) j.steps f.kernel m rules.holds_choice;
      free_none = λ e. ap (λ (t : Bool). cond t (free_by j.choice (covariance_xx j.shape) (covariance_xy j.shape) (covariance_yy j.shape) j.steps) 0) e;
    }
    )

-- no more slots than the store has buffers
few_slots : (rules : Rules) → Workable rules → rules.slot_count ≤ store_buffers
few_slots rules w =
    let some = w.some_buffer in
    let m : rules.slot_count * 1 ≤ rules.slot_count * rules.buffers_per_slot = mul-le-mul_left rules.slot_count (omega arith) in
    omega (arith, w.in_store)

pub record_fits : (p : Place) → Invariant p → Fits p.rules p.service
record_fits p v =
    let few = few_slots p.rules v.workable in
    record {
      as_many = v.as_many;
      slots_fit = λ i h. of i (slot_at p.service i) (v.taken i h);
      filled_fits = let l = v.filled in omega arith;
      served_fits = let l = v.served in omega arith;
    }
  where
    of : (i : ℕ) (s : Slot) → Taken p.rules p.history p.store i s → SlotFits p.rules s
    of i s (inl e) = rw e (empty_fits p.rules)
    of i s (inr w) = sits_fits p.rules p.history p.store i w.0 s w.1
