-- What holds at every place of a list: each slot is empty, or sits with one held job, whose picture after so many steps of its
-- own kernel stands in the slot's buffer; each held job sits in one slot. It is said job by job and for any rules, so that it carries
-- over a change of the record and of the rules. Assumes nothing.
use mathlib.Core.Path.{◌≡◌, refl, sym, ◌∙◌, ap}
use mathlib.Core.Bool.{Bool, true, false, not, cond, true≢false}
use mathlib.Core.Logic.{◌⊎◌, inl, inr, ⊎_elim}
use mathlib.Core.List.{List, ◌∷◌}
use Prim.Native.Nat.{ℕ, zero, suc, ◌+◌, ◌*◌, ◌≤◌, ◌<◌}
use native.Mathlib.Nat.{le_trans}
use native.Mathlib.Omega.{arith}
use borrow.Author.Tests.{le-leb, eq-eqb, ne_eqb, eqb-true, eqb-false, leb-true}
use lib.Dec.{eqb, leb}
use lib.ListN.{length, get_or, set, length-set}
use lib.Seq.{get_or-set_same, get_or-set_other}
use Rattle.limits.specs.Limits.{steps_in_range, sides_in_range, fits_buffer, buffer_pixels}
use lib.IntN.{ℤ, pos}
use Rattle.kernel.specs.declared.Choice.{Choice}
use Rattle.kernel.specs.declared.Choice.TheVariants.{Smallest}
use Rattle.kernel.specs.Molecule.{units_of, kernel_of, kernel_with}
use Rattle.kernel.specs.Existence.{kernel_exists, free_fits}
use Rattle.kernel.specs.Choice.{free_by, kernel_by}
use Rattle.kernel.proofs.Bounds.{free_kernel, choice_fits}
use Rattle.covariance.specs.Shapes.{variances_fine, direction_fine, covariance_xx, covariance_xy, covariance_yy}
use Rattle.machine.specs.declared.Slot.{Slot}
use Rattle.machine.specs.Rules.{Rules}
use Rattle.machine.specs.Slots.{empty_slot, slot_at, is_empty, has_number, count_of}
use Rattle.machine.specs.Store.{store_length, Workable, part, buffer_after}
use Rattle.machine.specs.Order.{free_fine, all_zero, filled_fine, slot_fine, in_order, usable}
use Rattle.machine.specs.Calls.{Call, choice_by, free_held, kernel_of_slot}
use Rattle.machine.specs.History.{Event, Place, next, event_of, Submitted, kernel_of_job, alone_after, job_of, held, ticks_of, steps_left, numbers, job_count, held_count}
use Rattle.machine.specs.Demand.{countdown}
use Rattle.machine.proofs.Search.{one, count_set}
use Rattle.machine.proofs.Orderly.{order_made}
use Rattle.machine.proofs.Rules.{block, within_block, from_block}
use Rattle.machine.proofs.Words.{Untouched, same_held, same_job, same_ticks}

-- what the checks of a submit leave of a job
pub record JobFine (j : Submitted) : Type 0 where
  pub workable : Workable j.rules
  pub choice : choice_by j.rules j.choice ≡ j.choice
  pub variances : variances_fine j.shape ≡ true
  pub direction : direction_fine j.shape ≡ true
  pub steps : steps_in_range j.steps ≡ true
  pub sides : sides_in_range j.width j.height ≡ true
  pub fits : fits_buffer j.width j.height ≡ true
  pub kernel : kernel_exists (covariance_xx j.shape) (covariance_xy j.shape) (covariance_yy j.shape) (units_of j.steps) ≡ true
  pub full : length j.picture ≡ j.width * j.height

-- the slot of a job with so many steps left, by the rules of a place: those of its submit, or later ones
abbrev pub slot_of : Rules → ℕ → Submitted → ℕ → Slot
slot_of rules n j left =
    record {
      number = n;
      xx = covariance_xx j.shape;
      xy = covariance_xy j.shape;
      yy = covariance_yy j.shape;
      steps = j.steps;
      left = left;
      width = j.width;
      height = j.height;
      free = free_held rules j.choice j.shape j.steps;
    }

-- ---- what a slot holds of a choice, by rules with one and by rules without
pub choice_twice : (rules : Rules) (choice : Choice) → choice_by rules (choice_by rules choice) ≡ choice_by rules choice
choice_twice rules choice = go rules.holds_choice
  where
    go : (t : Bool) → cond t (cond t choice Smallest) Smallest ≡ cond t choice Smallest
    go true = refl
    go false = refl

module _ (choice : Choice) (xx xy yy : ℤ) (k : ℕ) where
  pub free_of_choice : (t : Bool) → cond t (free_by (cond t choice Smallest) xx xy yy k) 0 ≡ cond t (free_by choice xx xy yy k) 0
  free_of_choice true = refl
  free_of_choice false = refl

  module _ (exists : kernel_exists xx xy yy (units_of k) ≡ true) where
    held_fits : (t : Bool) → cond t (free_fits xx xy yy (cond t (free_by choice xx xy yy k) 0) (units_of k)) true ≡ true
    held_fits true = choice_fits choice xx xy yy k exists
    held_fits false = refl

    held_kernel : (t : Bool) → cond t choice Smallest ≡ choice
        → cond t (kernel_with xx xy yy (pos (cond t (free_by choice xx xy yy k) 0)) k) (kernel_of xx xy yy k) ≡ kernel_by choice xx xy yy k
    held_kernel true c = free_kernel choice xx xy yy k exists
    held_kernel false c = ap (λ x. kernel_by x xx xy yy k) c

module _ (rules : Rules) (n : ℕ) (j : Submitted) (left : ℕ) (fine : JobFine j) where
  -- its f lies between the bounds
  pub free_fine_lem : free_fine rules (slot_of rules n j left) ≡ true
  free_fine_lem = held_fits j.choice (covariance_xx j.shape) (covariance_xy j.shape) (covariance_yy j.shape) j.steps fine.kernel rules.holds_choice

  -- and gives the job's own kernel, where the rules allow its choice
  pub own_kernel : choice_by rules j.choice ≡ j.choice → kernel_of_slot rules (slot_of rules n j left) ≡ kernel_of_job j
  own_kernel c = held_kernel j.choice (covariance_xx j.shape) (covariance_xy j.shape) (covariance_yy j.shape) j.steps fine.kernel rules.holds_choice c

-- slot i sits with the job of this number
pub record Sits (rules : Rules) (es : List Event) (store : List ℕ) (i n : ℕ) (s : Slot) : Type 0 where
  pub positive : 0 < n
  pub known : n ≤ job_count es
  pub is_held : held es n ≡ true
  pub is : s ≡ slot_of rules n (job_of es n) (steps_left es n)
  pub chosen : choice_by rules (job_of es n).choice ≡ (job_of es n).choice
  pub few : ticks_of es n ≤ (job_of es n).steps
  pub fine : JobFine (job_of es n)
  pub image : part (buffer_after rules i (ticks_of es n)) ((job_of es n).width * (job_of es n).height) store ≡ alone_after (job_of es n) (ticks_of es n)

-- a slot is empty, or sits with a job
abbrev pub Taken : Rules → List Event → List ℕ → ℕ → Slot → Type 0
Taken rules es store i s = (s ≡ empty_slot) ⊎ ((n : ℕ) × Sits rules es store i n s)

-- how many slots there are at a place
abbrev pub size : Place → ℕ
size p = p.rules.slot_count

pub record Invariant (p : Place) : Type 0 where
  pub workable : Workable p.rules
  pub as_many : length p.service.slots ≡ size p
  pub long : length p.store ≡ store_length
  pub filled : p.service.filled < size p
  pub served : p.service.served < size p
  pub last : p.service.last ≡ job_count p.history
  pub given : numbers p.history ≡ countdown (job_count p.history)
  pub taken : (i : ℕ) → i < size p → Taken p.rules p.history p.store i (slot_at p.service i)
  pub placed : (n : ℕ) → held p.history n ≡ true → (i : ℕ) × (i < size p) × ((slot_at p.service i).number ≡ n) × (0 < n)
  pub once : (i j : ℕ) → i < size p → j < size p → 0 < (slot_at p.service i).number
      → (slot_at p.service i).number ≡ (slot_at p.service j).number → i ≡ j
  pub counted : count_of (λ s. not (is_empty s)) p.service.slots (size p) ≡ held_count p.history

-- ---- a record with the invariant is in order
pub count_none : (test : Slot → Bool) (xs : List Slot) (n : ℕ) → ((i : ℕ) → i < n → test (get_or xs i empty_slot) ≡ false) → count_of test xs n ≡ 0
unfolding count_of
count_none test xs zero f = refl
count_none test xs (suc n) f = rw (f n (omega arith)) (count_none test xs n (λ i h. f i (omega arith)))

-- what is known of the slots of a list in which one is set
pub at_set : (P : ℕ → Slot → Type 0) (xs : List Slot) (m : ℕ) (v : Slot) → m < length xs → P m v → (i : ℕ)
    → ((i ≡ m → ⊥) → P i (get_or xs i empty_slot)) → P i (get_or (set xs m v) i empty_slot)
at_set P xs m v h new i old = go (eqb i m) refl
  where
    go : (t : Bool) → eqb i m ≡ t → P i (get_or (set xs m v) i empty_slot)
    go true e = let w = eqb-true i m e in rw (w, get_or-set_same xs m v empty_slot h) new
    go false e = let w = eqb-false i m e in rw (get_or-set_other xs m i v empty_slot w) (old w)

module _ (p : Place) (v : Invariant p) where
  alone : (i n : ℕ) → i < size p → Sits p.rules p.history p.store i n (slot_at p.service i)
      → count_of (has_number n) p.service.slots (size p) ≡ 1
  alone i n h s =
      let xs = p.service.slots in
      let l : i < length xs = omega (arith, v.as_many) in
      let number : (slot_at p.service i).number ≡ n = ap (λ x. x.number) s.is in
      let none : count_of (has_number n) (set xs i empty_slot) (size p) ≡ 0
      = count_none (has_number n) (set xs i empty_slot) (size p)
      (λ j g. at_set (λ j x. j < size p → has_number n x ≡ false) xs i empty_slot l (λ k. ne_eqb 0 n (λ x. omega (arith, s.positive))) j
      (λ ne k. ne_eqb (slot_at p.service j).number n (λ x. ne (sym (v.once i j h k (rw number s.positive) (number ∙ sym x))))) g) in
      let c = count_set (has_number n) xs i empty_slot (size p) h l in
      let old : has_number n (slot_at p.service i) ≡ true = eq-eqb _ _ number in
      let new : has_number n empty_slot ≡ false = ne_eqb 0 n (λ x. omega (arith, s.positive)) in
      let d = rw (none, old, new) at c in
      omega arith

  fine_slot : (i : ℕ) → i < size p → slot_fine p.rules p.service (slot_at p.service i) ≡ true
  unfolding slot_fine all_zero filled_fine
  fine_slot i h = go (v.taken i h)
    where
      either : (t : Bool) → cond t true true ≡ true
      either true = refl
      either false = refl

      go : Taken p.rules p.history p.store i (slot_at p.service i) → slot_fine p.rules p.service (slot_at p.service i) ≡ true
      go (inl e) = rw e (either p.rules.holds_choice)
      go (inr w) =
          let n = w.0 in
          let s = w.1 in
          let f = s.fine in
          let b = free_fine_lem p.rules n (job_of p.history n) (steps_left p.history n) f in
          let c = alone i n h s in
          let nonempty : eqb n 0 ≡ false = ne_eqb n 0 (λ x. omega (arith, s.positive)) in
          let l : leb n p.service.last ≡ true = le-leb n p.service.last (rw v.last s.known) in
          let g : leb (steps_left p.history n) (job_of p.history n).steps ≡ true = le-leb (steps_left p.history n) (job_of p.history n).steps (omega arith) in
          rw (s.is, nonempty, f.steps, f.sides, f.fits, f.kernel, b, l, g, c)

  pub in_order_lem : in_order p.rules p.service ≡ true
  in_order_lem = order_made p.rules p.service v.filled v.served fine_slot

  pub is_usable : usable p.rules p.service p.store ≡ true
  unfolding usable
  is_usable = rw (in_order_lem, eq-eqb (length p.store) store_length v.long)

-- ---- one more call, which sets one slot and touches one job
-- what a call changed: slot i is now s, and only the job with number m was touched
pub record Change (p : Place) (c : Call) (i m : ℕ) (s : Slot) : Type 0 where
  pub at : i < size p
  pub slots : (next p c).service.slots ≡ set p.service.slots i s
  pub before : ((slot_at p.service i).number ≡ 0) ⊎ ((slot_at p.service i).number ≡ m)
  pub only : (j : ℕ) → j < size p → (j ≡ i → ⊥) → (slot_at p.service j).number ≡ m → ⊥
  pub others : (n : ℕ) → (n ≡ m → ⊥) → Untouched (event_of p c) n
  pub long : length (next p c).store ≡ store_length
  pub apart : (j a n : ℕ) → (j ≡ i → ⊥) → block p.rules * j ≤ a → a + n ≤ block p.rules * (j + 1) → part a n (next p c).store ≡ part a n p.store
  pub grows : job_count p.history ≤ job_count (next p c).history
  pub new : ((s ≡ empty_slot) × (held (next p c).history m ≡ false)) ⊎ Sits p.rules (next p c).history (next p c).store i m s
  pub filled : (next p c).service.filled < size p
  pub served : (next p c).service.served < size p
  pub last : (next p c).service.last ≡ job_count (next p c).history
  pub given : numbers (next p c).history ≡ countdown (job_count (next p c).history)
  pub counted : held_count (next p c).history + one (not (is_empty (slot_at p.service i))) ≡ held_count p.history + one (not (is_empty s))

pub fits_le : (w h : ℕ) → fits_buffer w h ≡ true → w * h ≤ buffer_pixels
fits_le w h e = leb-true (w * h) buffer_pixels e

-- a job that an event does not touch sits as before, where its slot's block keeps its contents
pub sits_still : (rules : Rules) → Workable rules → (e : Event) (es : List Event) (store store' : List ℕ) (j n : ℕ) (s : Slot) → Untouched e n → job_count es ≤ job_count (e ∷ es)
    → ((a k : ℕ) → block rules * j ≤ a → a + k ≤ block rules * (j + 1) → part a k store' ≡ part a k store)
    → Sits rules es store j n s → Sits rules (e ∷ es) store' j n s
sits_still rules workable e es store store' j n s t grows apart x =
    let hh = same_held e es n t in
    let jj = same_job e es n t in
    let kk = same_ticks e es n t in
    record {
      positive = x.positive;
      known = le_trans x.known grows;
      is_held = hh ∙ x.is_held;
      is = rw (jj, kk) x.is;
      chosen = rw jj x.chosen;
      few = rw (jj, kk) x.few;
      fine = rw jj x.fine;
      image =
          rw (jj, kk)
          (apart (buffer_after rules j (ticks_of es n)) ((job_of es n).width * (job_of es n).height) (from_block rules workable j (ticks_of es n))
          (within_block rules workable j (ticks_of es n) ((job_of es n).width * (job_of es n).height) (fits_le (job_of es n).width (job_of es n).height x.fine.fits))
          ∙ x.image);
    }

module _ (p : Place) (v : Invariant p) (c : Call) (i m : ℕ) (s : Slot) (u : Change p c i m s) where
  set_at : i < length p.service.slots
  set_at = omega (arith, u.at, v.as_many)

  now_at : slot_at (next p c).service i ≡ s
  now_at = rw u.slots (get_or-set_same p.service.slots i s empty_slot set_at)

  elsewhere : (j : ℕ) → (j ≡ i → ⊥) → slot_at (next p c).service j ≡ slot_at p.service j
  elsewhere j ne = rw u.slots (get_or-set_other p.service.slots i j s empty_slot ne)

  -- a slot that was not set sits as before
  stays : (j : ℕ) → j < size p → (j ≡ i → ⊥) → Taken p.rules p.history p.store j (slot_at p.service j)
      → Taken p.rules (next p c).history (next p c).store j (slot_at p.service j)
  stays j h ne (inl e) = inl e
  stays j h ne (inr w) =
      let n = w.0 in
      let x = w.1 in
      let other : (n ≡ m → ⊥) = λ e. u.only j h ne (ap (λ z. z.number) x.is ∙ e) in
      inr (
        n,
        sits_still p.rules v.workable (event_of p c) p.history p.store (next p c).store j n (slot_at p.service j) (u.others n other) u.grows
            (λ a k. u.apart j a k ne) x,
      )

  takes : (j : ℕ) → j < size p → (t : Bool) → eqb j i ≡ t → Taken p.rules (next p c).history (next p c).store j (slot_at (next p c).service j)
  takes j h true e = rw (eqb-true j i e, now_at) (⊎_elim (λ w. inl w.0) (λ w. inr (m, w)) u.new)
  takes j h false e = let ne = eqb-false j i e in rw (elsewhere j ne) (stays j h ne (v.taken j h))

  -- the number that the slot has now
  number_now : 0 < s.number → s.number ≡ m
  number_now h = ⊎_elim (λ w. absurd (let z = ap (λ x. x.number) w.0 in omega arith)) (λ w. ap (λ x. x.number) w.is) u.new

  place_of_touched : held (next p c).history m ≡ true → (j : ℕ) × (j < size p) × ((slot_at (next p c).service j).number ≡ m) × (0 < m)
  place_of_touched h = ⊎_elim (λ w. absurd (true≢false (sym h ∙ w.1))) (λ w. (i, u.at, rw now_at (ap (λ (x : Slot). x.number) w.is), w.positive)) u.new

  place_of_other : (n : ℕ) → (n ≡ m → ⊥) → held (next p c).history n ≡ true
      → (j : ℕ) × (j < size p) × ((slot_at (next p c).service j).number ≡ n) × (0 < n)
  place_of_other n ne h =
      let w = v.placed n (sym (same_held (event_of p c) p.history n (u.others n ne)) ∙ h) in
      let away : (w.0 ≡ i → ⊥) = λ e. ⊎_elim
      (λ z. let q : n ≡ 0 = sym w.2 ∙ ap (λ x. (slot_at p.service x).number) e ∙ z in omega (arith, w.3))
      (λ z. ne (sym w.2 ∙ ap (λ x. (slot_at p.service x).number) e ∙ z)) u.before in
      (w.0, w.1, rw (elsewhere w.0 away) w.2, w.3)

  placed_now : (n : ℕ) → (t : Bool) → eqb n m ≡ t → held (next p c).history n ≡ true
      → (j : ℕ) × (j < size p) × ((slot_at (next p c).service j).number ≡ n) × (0 < n)
  placed_now n true e = rw (eqb-true n m e) place_of_touched
  placed_now n false e = place_of_other n (eqb-false n m e)

  once_now : (a b : ℕ) → a < size p → b < size p → (t q : Bool) → eqb a i ≡ t → eqb b i ≡ q → 0 < (slot_at (next p c).service a).number
      → (slot_at (next p c).service a).number ≡ (slot_at (next p c).service b).number → a ≡ b
  once_now a b ha hb true true x y g e = eqb-true a i x ∙ sym (eqb-true b i y)
  once_now a b ha hb true false x y g e =
      let na : slot_at (next p c).service a ≡ s = rw (eqb-true a i x) now_at in
      let nb = elsewhere b (eqb-false b i y) in
      let z = number_now (rw na at g) in
      absurd (u.only b hb (eqb-false b i y) (ap (λ k. k.number) (sym nb) ∙ sym e ∙ ap (λ k. k.number) na ∙ z))
  once_now a b ha hb false true x y g e =
      let nb : slot_at (next p c).service b ≡ s = rw (eqb-true b i y) now_at in
      let na = elsewhere a (eqb-false a i x) in
      let w : (slot_at p.service a).number ≡ s.number = ap (λ k. k.number) (sym na) ∙ e ∙ ap (λ k. k.number) nb in
      let z = number_now (rw w at (rw na at g)) in
      absurd (u.only a ha (eqb-false a i x) (w ∙ z))
  once_now a b ha hb false false x y g e =
      let na = elsewhere a (eqb-false a i x) in
      let nb = elsewhere b (eqb-false b i y) in
      v.once a b ha hb (rw na at g) (ap (λ k. k.number) (sym na) ∙ e ∙ ap (λ k. k.number) nb)

  pub changed : Invariant (next p c)
  changed =
      record {
        workable = v.workable;
        as_many = rw u.slots (length-set p.service.slots i s ∙ v.as_many);
        long = u.long;
        filled = u.filled;
        served = u.served;
        last = u.last;
        given = u.given;
        taken = λ j h. takes j h (eqb j i) refl;
        placed = λ n. placed_now n (eqb n m) refl;
        once = λ a b ha hb. once_now a b ha hb (eqb a i) (eqb b i) refl refl;
        counted =
            rw u.slots
            (let k = count_set (λ x. not (is_empty x)) p.service.slots i s (size p) u.at set_at in
            let o = v.counted in
            let w = u.counted in
            omega arith);
      }
