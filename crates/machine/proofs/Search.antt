-- Searches over the slots, for any number of them: what a search finds passes the test and is none further than any other that
-- passes; and how counts change where one slot is set. Assumes nothing.
use mathlib.Core.Path.{◌≡◌, refl, sym, ◌∙◌, ap}
use mathlib.Core.Bool.{Bool, true, false, cond, true≢false}
use mathlib.Core.List.{List}
use Prim.Native.Nat.{ℕ, zero, suc, ◌+◌, ◌-◌, ◌≤◌, ◌<◌}
use native.Mathlib.Omega.{arith}
use borrow.Author.Tests.{ltb-true, ltb-false, eqb-true, eqb-false}
use lib.Dec.{ltb, eqb}
use lib.ListN.{length, get_or, set}
use lib.Seq.{get_or-set_same, get_or-set_other}
use Rattle.machine.specs.declared.Slot.{Slot}
use Rattle.machine.specs.Slots.{empty_slot, next_place, first_from, count_of}
use Rattle.std.specs.Prelude.{Some, None}

pub next_lt : (size i : ℕ) → 0 < size → next_place size i < size
next_lt size i h = go (ltb (i + 1) size) refl
  where
    go : (t : Bool) → ltb (i + 1) size ≡ t → cond t (i + 1) 0 < size
    go true e = ltb-true (i + 1) size e
    go false e = h

-- the two values of the next place
pub data NextIs (size i : ℕ) : Type 0 where
  on : i + 1 < size → next_place size i ≡ i + 1 → NextIs size i
  round : size ≤ i + 1 → next_place size i ≡ 0 → NextIs size i

pub next_is : (size i : ℕ) → NextIs size i
next_is size i = go (ltb (i + 1) size) refl
  where
    go : (t : Bool) → ltb (i + 1) size ≡ t → NextIs size i
    go true e = on (ltb-true (i + 1) size e) (rw e)
    go false e = round (ltb-false (i + 1) size e) (rw e)

-- i lies d places on from a place, counted cyclically
pub data Ahead (size place i d : ℕ) : Type 0 where
  near : place + d ≡ i → Ahead size place i d
  wrapped : place + d ≡ i + size → Ahead size place i d

pub distance : (size place i : ℕ) → place < size → i < size → (d : ℕ) × Ahead size place i d × (d < size)
distance size place i p h = go (ltb i place) refl
  where
    go : (t : Bool) → ltb i place ≡ t → (d : ℕ) × Ahead size place i d × (d < size)
    go true e = let l = ltb-true i place e in (i + size - place, wrapped (omega arith), omega arith)
    go false e = let l = ltb-false i place e in (i - place, near (omega arith), omega arith)

-- a place that is not the one looked for is one nearer after it
step_on : (size place i d : ℕ) → place < size → i < size → (place ≡ i → ⊥) → Ahead size place i (suc d) → Ahead size (next_place size place) i d
step_on size place i d p h ne a = go (next_is size place) a
  where
    go : NextIs size place → Ahead size place i (suc d) → Ahead size (next_place size place) i d
    go (on l e) (near x) = near (rw e (omega arith))
    go (on l e) (wrapped x) = wrapped (rw e (omega arith))
    go (round l e) (near x) = absurd (omega arith)
    go (round l e) (wrapped x) = near (rw e (omega arith))

step_back : (size place i d : ℕ) → place < size → d + 1 < size → Ahead size (next_place size place) i d → Ahead size place i (suc d)
step_back size place i d p h a = go (next_is size place) a
  where
    go : NextIs size place → Ahead size (next_place size place) i d → Ahead size place i (suc d)
    go (on l e) (near x) = near (let y = rw e at x in omega arith)
    go (on l e) (wrapped x) = wrapped (let y = rw e at x in omega arith)
    go (round l e) (near x) = wrapped (let y = rw e at x in omega arith)
    go (round l e) (wrapped x) = absurd (let y = rw e at x in omega arith)

-- what a search finds: it passes the test, and is none further than i, which passes it too
pub record Hit (test : Slot → Bool) (slots : List Slot) (size place n d : ℕ) : Type 0 where
  pub at : ℕ
  pub is : first_from test slots size place n ≡ Some at
  pub passes : test (get_or slots at empty_slot) ≡ true
  pub below : at < size
  pub from : ℕ
  pub ahead : Ahead size place at from
  pub no_further : from ≤ d

pub hit : (test : Slot → Bool) (slots : List Slot) (size i : ℕ) → test (get_or slots i empty_slot) ≡ true → i < size
    → (n place d : ℕ) → place < size → Ahead size place i d → d < n → n ≤ size → Hit test slots size place n d
unfolding first_from
hit test slots size i good h zero place d p a l m = absurd (omega arith)
hit test slots size i good h (suc n) place d p a l m = go (test (get_or slots place empty_slot)) refl (λ e. hit test slots size i good h n (next_place size place) e (next_lt size place (omega arith)))
  where
    further : (d : ℕ) → d < suc n → Ahead size place i d → test (get_or slots place empty_slot) ≡ false
        → ((e : ℕ) → Ahead size (next_place size place) i e → e < n → n ≤ size → Hit test slots size (next_place size place) n e) → Hit test slots size place (suc n) d
    further zero l (near x) bad f = absurd (true≢false (sym good ∙ ap (λ j. test (get_or slots j empty_slot)) (let y : i ≡ place = omega arith in y) ∙ bad))
    further zero l (wrapped x) bad f = absurd (omega arith)
    further (suc d) l a bad f =
        let g = f d (step_on size place i d p h (λ x. true≢false (sym good ∙ ap (λ j. test (get_or slots j empty_slot)) (sym x) ∙ bad)) a) (omega arith) (omega arith) in
        record {
          at = g.at;
          is = rw bad g.is;
          passes = g.passes;
          below = g.below;
          from = suc g.from;
          ahead = step_back size place g.at g.from p (omega (arith, g.no_further)) g.ahead;
          no_further = omega (arith, g.no_further);
        }

    go : (t : Bool) → test (get_or slots place empty_slot) ≡ t
        → ((e : ℕ) → Ahead size (next_place size place) i e → e < n → n ≤ size → Hit test slots size (next_place size place) n e) → Hit test slots size place (suc n) d
    go true e f = record { at = place; is = rw e; passes = e; below = p; from = 0; ahead = near (omega arith); no_further = omega arith }
    go false e f = further d l a e f

-- what a search answers passes the test
pub found : (test : Slot → Bool) (slots : List Slot) (size : ℕ) → 0 < size → (n place at : ℕ) → place < size
    → first_from test slots size place n ≡ Some at → (at < size) × (test (get_or slots at empty_slot) ≡ true)
unfolding first_from
found test slots size s zero place at p e = absurd (let z : ◌≡◌ {A = ℕ} 0 1 = cc in omega arith)
found test slots size s (suc n) place at p e = go (test (get_or slots place empty_slot)) refl (found test slots size s n (next_place size place) at (next_lt size place s)) e
  where
    go : (t : Bool) → test (get_or slots place empty_slot) ≡ t
        → (first_from test slots size (next_place size place) n ≡ Some at → (at < size) × (test (get_or slots at empty_slot) ≡ true))
        → cond t (Some place) (first_from test slots size (next_place size place) n) ≡ Some at → (at < size) × (test (get_or slots at empty_slot) ≡ true)
    go true q f e = let w : place ≡ at = cc in (omega arith, rw w at q)
    go false q f e = f e

-- a search over all slots that finds nothing: none passes
pub nothing : (test : Slot → Bool) (slots : List Slot) (size place : ℕ) → place < size → first_from test slots size place size ≡ None
    → (i : ℕ) → i < size → test (get_or slots i empty_slot) ≡ false
nothing test slots size place p e i h = go (test (get_or slots i empty_slot)) refl
  where
    go : (t : Bool) → test (get_or slots i empty_slot) ≡ t → test (get_or slots i empty_slot) ≡ false
    go true good =
        let d = distance size place i p h in
        let g = hit test slots size i good h size place d.0 p d.1 d.2 (omega arith) in
        absurd (let z : ◌≡◌ {A = ℕ} 0 1 = cc g.is in omega arith)
    go false bad = bad

-- after the slot that was found is served, i is nearer by one place at least, or it is i itself and stands a whole round away
pub nearer : (size place k i e d : ℕ) → place < size → k < size → i < size → (i ≡ k → ⊥) → Ahead size place k e → Ahead size place i d → e ≤ d
    → (f : ℕ) × Ahead size (next_place size k) i f × (f + 1 ≤ d)
nearer size place k i e d p hk hi ne a b le = go (next_is size k) a b
  where
    go : NextIs size k → Ahead size place k e → Ahead size place i d → (f : ℕ) × Ahead size (next_place size k) i f × (f + 1 ≤ d)
    go (on l x) (near y) (near z) = (d - e - 1, near (rw x (omega arith)), omega arith)
    go (on l x) (near y) (wrapped z) = (d - e - 1, wrapped (rw x (omega arith)), omega arith)
    go (on l x) (wrapped y) (near z) = absurd (omega arith)
    go (on l x) (wrapped y) (wrapped z) = (d - e - 1, near (rw x (omega arith)), omega arith)
    go (round l x) (near y) (near z) = absurd (omega arith)
    go (round l x) (near y) (wrapped z) = (d - e - 1, near (rw x (omega arith)), omega arith)
    go (round l x) (wrapped y) (near z) = absurd (omega arith)
    go (round l x) (wrapped y) (wrapped z) = absurd (omega arith)

pub round_again : (size i : ℕ) → i < size → Ahead size (next_place size i) i (size - 1)
round_again size i h = go (next_is size i)
  where
    go : NextIs size i → Ahead size (next_place size i) i (size - 1)
    go (on l x) = wrapped (rw x (omega arith))
    go (round l x) = near (rw x (omega arith))

-- ---- counts
abbrev pub one : Bool → ℕ
one true = 1
one false = 0

pub count_same : (p q : Slot → Bool) (xs ys : List Slot) (n : ℕ) → ((i : ℕ) → i < n → p (get_or xs i empty_slot) ≡ q (get_or ys i empty_slot)) → count_of p xs n ≡ count_of q ys n
unfolding count_of
count_same p q xs ys zero f = refl
count_same p q xs ys (suc n) f = rw (f n (omega arith), count_same p q xs ys n (λ i h. f i (omega arith)))

-- where one slot is set, the count changes by what the old and the new one count
pub count_set : (test : Slot → Bool) (xs : List Slot) (i : ℕ) (s : Slot) (n : ℕ) → i < n → i < length xs
    → count_of test (set xs i s) n + one (test (get_or xs i empty_slot)) ≡ count_of test xs n + one (test s)
unfolding count_of
count_set test xs i s zero h l = absurd (omega arith)
count_set test xs i s (suc n) h l = go (eqb i n) refl (count_set test xs i s n)
  where
    at_cond : (t : Bool) (a : ℕ) → cond t (a + 1) a ≡ a + one t
    at_cond true a = refl
    at_cond false a = omega arith

    go : (t : Bool) → eqb i n ≡ t
        → (i < n → i < length xs → count_of test (set xs i s) n + one (test (get_or xs i empty_slot)) ≡ count_of test xs n + one (test s))
        → cond (test (get_or (set xs i s) n empty_slot)) (count_of test (set xs i s) n + 1) (count_of test (set xs i s) n) + one (test (get_or xs i empty_slot))
        ≡ cond (test (get_or xs n empty_slot)) (count_of test xs n + 1) (count_of test xs n) + one (test s)
    go true e f =
        let w = eqb-true i n e in
        rw (← w, get_or-set_same xs i s empty_slot l, at_cond, at_cond (test (get_or xs i empty_slot)))
        (let c = count_same test test (set xs i s) xs i (λ j b. rw (get_or-set_other xs i j s empty_slot (λ x. omega arith))) in omega arith)
    go false e f =
        let w = eqb-false i n e in
        rw (get_or-set_other xs i n s empty_slot (λ x. w (sym x)), at_cond, at_cond (test (get_or xs n empty_slot)))
        (let c = f (omega arith) l in omega arith)
