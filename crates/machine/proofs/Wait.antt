-- The wait, for any number of slots. A job with steps left is at most a round away from being served: with d slots before it,
-- (slots) × (steps left) + d falls with every tick, and no other call and no change-over makes it grow.
-- Assumes nothing.
use mathlib.Core.Path.{◌≡◌, refl, sym, ◌∙◌, ap, subst}
use mathlib.Core.Bool.{Bool, true, false, ◌&&◌, ◌||◌, true≢false}
use mathlib.Core.Logic.{◌⊎◌, inl, inr, ⊎_elim}
use mathlib.Core.List.{List, [], ◌∷◌, ◌++◌}
use Prim.Native.Nat.{ℕ, zero, suc, ◌+◌, ◌-◌, ◌*◌, ◌≤◌, ◌<◌}
use native.Mathlib.Nat.{le_trans, mul-suc, zero-add}
use native.Mathlib.Omega.{arith}
use borrow.Author.Tests.{eq-eqb, ne_eqb, eqb-true, eqb-false, lt-ltb}
use lib.Dec.{eqb}
use lib.Seq.{get_or-set_same, get_or-set_other}
use Rattle.limits.specs.declared.ErrorCode.TheVariants.{StepsAreLeft}
use Rattle.machine.specs.declared.Slot.{Slot}
use Rattle.machine.specs.Slots.{empty_slot, slot_at, has_steps_left, next_place}
use Rattle.machine.specs.Calls.{Call, submit, tick, collect, withdraw, served_place}
use Rattle.machine.specs.History.{Event, Place, Entry, calling, changing, next, event_of, onward, after, since, accepts, answers_number, serves, ends, withdraws_by, job_of, held, ticks_of, steps_left, job_count, withdrawn_in, one_for_tick, ticks_in}
use Rattle.machine.specs.Demand.{answer_at, collect_answer}
use Rattle.machine.proofs.Search.{Ahead, Hit, hit, nearer, round_again, next_lt}
use Rattle.machine.proofs.Words.{untouched_by, same_held, same_job, same_ticks, kept_held, kept_job, served_ticks}
use Rattle.machine.proofs.Invariant.{Invariant, size, Change}
use Rattle.machine.proofs.Changes.{same_history, same_size, same_served, same_number, change_keeps}
use Rattle.machine.proofs.Served.{Effect, still, sets}
use Rattle.machine.proofs.Ticks.{Ticked, idled, served, ticked}
use Rattle.machine.proofs.Ends.{collects}
use Rattle.machine.proofs.Lists.{answers, next_invariant, jobs_grow, stays_finished}
use Rattle.std.specs.Prelude.{Some, Err}

withdrawn_append : (xs ys : List Event) (n : ℕ) → withdrawn_in (xs ++ ys) n ≡ withdrawn_in xs n || withdrawn_in ys n
unfolding withdrawn_in
withdrawn_append [] ys n = refl
withdrawn_append (e ∷ xs) ys n = rw (withdrawn_append xs ys n) (or_assoc (withdraws_by e.call e.answer n) (withdrawn_in xs n) (withdrawn_in ys n))
  where
    or_assoc : (a b c : Bool) → a || (b || c) ≡ (a || b) || c
    or_assoc true b c = refl
    or_assoc false b c = refl

withdrawn_one : (e : Event) (n : ℕ) → withdraws_by e.call e.answer n ≡ true → withdrawn_in (e ∷ []) n ≡ true
unfolding withdrawn_in
withdrawn_one e n h = rw h

or_left : (a b : Bool) → a ≡ true → a || b ≡ true
or_left a b e = rw e

or_right : (a b : Bool) → b ≡ true → a || b ≡ true
or_right true b e = refl
or_right false b e = e

-- ---- rounds
-- a step left is a round of turns
one_round : (size q r : ℕ) → r ≡ suc q → size * q + size ≡ size * r
one_round size q r e = rw (e, mul-suc)

-- fewer turns than a round are no step
no_round : (size r d : ℕ) → 0 < size → size * r + d ≤ size - 1 → r ≡ 0
no_round size zero d s h = refl
no_round size (suc r) d s h = absurd (let e = mul-suc size r in omega arith)

-- job n sits in slot i, d slots after the one to be looked at next
pub record Waiting (p : Place) (n i d : ℕ) : Type 0 where
  pub is_held : held p.history n ≡ true
  pub at : i < size p
  pub number : (slot_at p.service i).number ≡ n
  pub ahead : Ahead (size p) (next_place (size p) p.service.served) i d
  pub below : d < size p

-- what one call does to a job that waits: it was withdrawn, or it waits on and is no further from its end
pub WaitsOn : Place → Call → ℕ → ℕ → ℕ → Type 0
WaitsOn p c n i d =
    (withdraws_by c (answer_at p c) n ≡ true)
    ⊎ ((e : ℕ) × Waiting (next p c) n i e × (size p * steps_left (next p c).history n + e + one_for_tick c ≤ size p * steps_left p.history n + d))

module _ (p : Place) (v : Invariant p) (n i d : ℕ) (x : Waiting p n i d) (left : 0 < steps_left p.history n) where
  positive : 0 < n
  positive = (v.placed n x.is_held).3

  -- a call that is no tick and does not touch the job
  apart : (c : Call) → one_for_tick c ≡ 0 → (next p c).service.served ≡ p.service.served → held (next p c).history n ≡ held p.history n
      → job_of (next p c).history n ≡ job_of p.history n → ticks_of (next p c).history n ≡ ticks_of p.history n
      → slot_at (next p c).service i ≡ slot_at p.service i → WaitsOn p c n i d
  unfolding WaitsOn
  apart c t s h j k sl =
      inr (
        d,
        record { is_held = h ∙ x.is_held; at = x.at; number = rw sl x.number; ahead = rw s x.ahead; below = x.below },
        rw (j, k, t) (omega arith),
      )

  -- the slot of another job was set
  elsewhere : (c : Call) (k m : ℕ) (s : Slot) → Change p c k m s → (n ≡ m → ⊥) → slot_at (next p c).service i ≡ slot_at p.service i
  elsewhere c k m s u ne =
      rw u.slots
      (get_or-set_other p.service.slots k i s empty_slot
      (λ e. ⊎_elim (λ z. let q = sym x.number ∙ ap (λ j. (slot_at p.service j).number) e ∙ z in let g = positive in omega arith)
      (λ z. ne (sym x.number ∙ ap (λ j. (slot_at p.service j).number) e ∙ z)) u.before))

  still_waits : (c : Call) → one_for_tick c ≡ 0 → accepts (answer_at p c) ≡ false → (next p c).service ≡ p.service → WaitsOn p c n i d
  still_waits c t a s =
      let y = untouched_by (event_of p c) a n in
      apart c t (ap (λ r. r.served) s) (same_held (event_of p c) p.history n y) (same_job (event_of p c) p.history n y) (same_ticks (event_of p c) p.history n y) (ap (λ r. slot_at r i) s)

  other_waits : (c : Call) → one_for_tick c ≡ 0 → (next p c).service.served ≡ p.service.served → (k m : ℕ) (s : Slot) → Change p c k m s → (n ≡ m → ⊥) → WaitsOn p c n i d
  other_waits c t s k m sl u ne =
      let y = u.others n ne in
      apart c t s (same_held (event_of p c) p.history n y) (same_job (event_of p c) p.history n y) (same_ticks (event_of p c) p.history n y) (elsewhere c k m sl u ne)

  -- a call that is no tick, where what it does to the job itself is known
  by_effect : (c : Call) → one_for_tick c ≡ 0 → (next p c).service.served ≡ p.service.served
      → (ends (event_of p c) n ≡ true → WaitsOn p c n i d) → (serves (event_of p c) n ≡ true → ⊥) → Effect p c → WaitsOn p c n i d
  by_effect c t s own no-serve (still a e) = still_waits c t a e
  by_effect c t s own no-serve (sets k m sl u touch) = go (eqb n m) refl
    where
      go : (b : Bool) → eqb n m ≡ b → WaitsOn p c n i d
      go true e =
          let q = eqb-true n m e in
          ⊎_elim
          (λ z. absurd (true≢false (sym x.is_held ∙ ap (held p.history) q ∙ z)))
          (λ z. ⊎_elim (λ y. own (rw q y)) (λ y. absurd (no-serve (rw q y))) z) touch
      go false e = other_waits c t s k m sl u (eqb-false n m e)

  -- a collect of a job with steps left is refused
  not_collected : (m : ℕ) (lent : List ℕ) → ends (event_of p (collect m lent)) n ≡ true → ⊥
  not_collected m lent e = go (eqb m n) refl e
    where
      refused : collect_answer p.history n lent ≡ Err StepsAreLeft
      refused = rw (x.is_held, ne_eqb (steps_left p.history n) 0 (λ z. omega arith))

      go : (b : Bool) → eqb m n ≡ b → (b && accepts (answer_at p (collect m lent))) ≡ true → ⊥
      go true q h =
          true≢false (sym h ∙ ap accepts (ap (λ k. answer_at p (collect k lent)) (eqb-true m n q) ∙ (collects p v n lent).answered ∙ refused))
      go false q h = true≢false (sym h)

  -- ---- a tick
  passes : has_steps_left (slot_at p.service i) ≡ true
  passes =
      lt-ltb 0 (slot_at p.service i).left
      (⊎_elim
      (λ z. let q = sym x.number ∙ ap (λ (s : Slot). s.number) z in let g = positive in absurd (omega arith))
      (λ z. let q : z.0 ≡ n = sym (ap (λ (s : Slot). s.number) z.1.is) ∙ x.number in
      rw (ap (λ (s : Slot). s.left) z.1.is, q) left)
      (v.taken i x.at))

  found : Hit has_steps_left p.service.slots (size p) (next_place (size p) p.service.served) (size p) d
  found = hit has_steps_left p.service.slots (size p) i passes x.at (size p) (next_place (size p) p.service.served) d (next_lt (size p) p.service.served v.workable.some_slot) x.ahead x.below (omega arith)

  held_on : held (next p tick).history n ≡ true
  held_on = kept_held (event_of p tick) p.history n refl refl ∙ x.is_held

  tick_waits : Ticked p v → WaitsOn p tick n i d
  unfolding WaitsOn
  tick_waits (idled e s none) = absurd (let z = none n x.is_held in omega arith)
  tick_waits (served k m e h s u l turn done) =
      let here : found.at ≡ k = same found.is e in
      go (eqb i k) refl (subst (λ j. Ahead (size p) (next_place (size p) p.service.served) j found.from) here found.ahead)
    where
      same : served_place p.rules p.service ≡ Some found.at → served_place p.rules p.service ≡ Some k → found.at ≡ k
      same f g = cc

      job_on : job_of (next p tick).history n ≡ job_of p.history n
      job_on = kept_job (event_of p tick) p.history n refl

      go : (b : Bool) → eqb i k ≡ b → Ahead (size p) (next_place (size p) p.service.served) k found.from
          → (withdraws_by tick (answer_at p tick) n ≡ true)
          ⊎ ((e : ℕ) × Waiting (next p tick) n i e × (size p * steps_left (next p tick).history n + e + 1 ≤ size p * steps_left p.history n + d))
      go true q a =
          let here = eqb-true i k q in
          let mine : n ≡ m = sym x.number ∙ ap (λ j. (slot_at p.service j).number) here ∙ ap (λ (s : Slot). s.number) s.is in
          let serves_it : serves (event_of p tick) n ≡ true = ap (λ a. answers_number a n) done.answered ∙ eq-eqb m n (sym mine) in
          let ticks-on = served_ticks (event_of p tick) p.history n refl serves_it in
          let now-here : (slot_at (next p tick).service k).number ≡ n =
          rw (u.slots, get_or-set_same p.service.slots k _ empty_slot (omega (arith, h, v.as_many))) (ap (λ (s : Slot). s.number) s.is ∙ sym mine) in
          inr (
            size p - 1,
            record {
              is_held = held_on;
              at = x.at;
              number = rw here now-here;
              ahead = rw (turn, here) (round_again (size p) k h);
              below = let some = v.workable.some_slot in omega arith;
            },
            rw (job_on, ticks-on) (let r = one_round (size p) ((job_of p.history n).steps - (ticks_of p.history n + 1)) (steps_left p.history n) (omega arith) in let some = v.workable.some_slot in omega arith),
          )
      go false q a =
          let ne = eqb-false i k q in
          let other : (n ≡ m → ⊥) = λ z. ne (v.once i k x.at h (let g = positive in omega (arith, x.number)) (x.number ∙ z ∙ sym (ap (λ (s : Slot). s.number) s.is))) in
          let y = u.others n other in
          let w = nearer (size p) (next_place (size p) p.service.served) k i found.from d (next_lt (size p) p.service.served v.workable.some_slot) h x.at ne a x.ahead found.no_further in
          inr (
            w.0,
            record {
              is_held = held_on;
              at = x.at;
              number = rw (elsewhere tick k m _ u other) x.number;
              ahead = rw turn w.1;
              below = omega (arith, w.2, x.below);
            },
            rw (job_on, same_ticks (event_of p tick) p.history n y) (omega (arith, w.2)),
          )

  pub waits_on : (c : Call) → WaitsOn p c n i d
  unfolding WaitsOn
  waits_on (submit choice shape k w h pixels) =
      let s = (answers p v (submit choice shape k w h pixels)).1 in
      by_effect (submit choice shape k w h pixels) refl (s.turn refl) (λ e. absurd (true≢false (sym e))) (λ e. true≢false (sym e)) s.effect
  waits_on tick = tick_waits (ticked p v)
  waits_on (collect m lent) =
      let s = (answers p v (collect m lent)).1 in
      by_effect (collect m lent) refl (s.turn refl) (λ e. absurd (not_collected m lent e)) (λ e. true≢false (sym e)) s.effect
  waits_on (withdraw m) =
      let s = (answers p v (withdraw m)).1 in
      by_effect (withdraw m) refl (s.turn refl) (λ e. inl e) (λ e. true≢false (sym e)) s.effect

-- the change-over leaves a job where it waits
pub change_waits : (p : Place) (n i d : ℕ) → Waiting p n i d → Waiting (onward p changing) n i d
change_waits p n i d x =
    record {
      is_held = ap (λ es. held es n) (same_history p) ∙ x.is_held;
      at = rw (same_size p) x.at;
      number = same_number p i ∙ x.number;
      ahead = rw (same_size p, same_served p) x.ahead;
      below = rw (same_size p) x.below;
    }

pub waits : (es : List Entry) (p : Place) → Invariant p → (n i d : ℕ) → Waiting p n i d → n ≤ job_count p.history
    → size p * steps_left p.history n + d ≤ ticks_in es + (size p - 1)
    → (steps_left (after p es).history n ≡ 0) ⊎ (withdrawn_in (since p es) n ≡ true)
unfolding after since ticks_in WaitsOn
waits [] p v n i d x k b = inl (no_round (size p) (steps_left p.history n) d v.workable.some_slot (rw (zero-add (size p - 1)) at b))
waits (changing ∷ es) p v n i d x k b =
    ⊎_elim (λ y. inl y) (λ y. inr (withdrawn_append (since (onward p changing) es) [] n ∙ or_left _ _ y))
    (waits es (onward p changing) (change_keeps p v) n i d (change_waits p n i d x) (rw (same_history p) k)
    (rw (same_size p, same_history p) (rw (zero-add (ticks_in es)) at b)))
waits (calling c ∷ es) p v n i d x k b =
    go (eqb (steps_left p.history n) 0) refl
    (λ e y l. waits es (next p c) (next_invariant p v c) n i e y (le_trans k (jobs_grow p v c)) l)
  where
    go : (t : Bool) → eqb (steps_left p.history n) 0 ≡ t
        → ((e : ℕ) → Waiting (next p c) n i e → size p * steps_left (next p c).history n + e ≤ ticks_in es + (size p - 1)
        → (steps_left (after (next p c) es).history n ≡ 0) ⊎ (withdrawn_in (since (next p c) es) n ≡ true))
        → (steps_left (after (next p c) es).history n ≡ 0) ⊎ (withdrawn_in (since (next p c) es ++ (event_of p c ∷ [])) n ≡ true)
    go true z f = inl (stays_finished (calling c ∷ es) p v n k (eqb-true (steps_left p.history n) 0 z))
    go false z f =
        let some = eqb-false (steps_left p.history n) 0 z in
        ⊎_elim
        (λ w. inr (withdrawn_append (since (next p c) es) (event_of p c ∷ []) n ∙ or_right (withdrawn_in (since (next p c) es) n) _ (withdrawn_one (event_of p c) n w)))
        (λ w. ⊎_elim (λ y. inl y) (λ y. inr (withdrawn_append (since (next p c) es) (event_of p c ∷ []) n ∙ or_left _ _ y)) (f w.0 w.1 (omega (arith, w.2))))
        (waits_on p v n i d x (omega arith) c)
