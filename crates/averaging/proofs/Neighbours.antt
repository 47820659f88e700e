-- Neighbours: a test of each of them is a test of every other pixel of the picture at most one column and one row away; and the pixel
-- that a step reads at one of its nine offsets, the nearest one where the offset leads outside, is the pixel itself or one of its
-- neighbours. Assumes nothing.
use mathlib.Core.Path.{◌≡◌, refl, sym, ap, subst, subst₂, ◌∙◌}
use mathlib.Core.Bool.{Bool, true, false, cond, not, ◌&&◌, true≢false}
use mathlib.Core.Logic.{◌⊎◌, inl, inr, ◌↔◌}
use mathlib.Core.List.{List, [], ◌∷◌, foldr}
use Prim.Native.Nat.{ℕ, zero, suc, ◌+◌, ◌≤◌, ◌<◌}
use native.Mathlib.Omega.{arith}
use borrow.Author.Tests.{eqb-true, eqb-false, leb-true, leb-false, ltb-true, not-true, lt-ltb}
use lib.Dec.{eqb, leb}
use lib.IntN.{ℤ, pos, negsuc, nat_abs, ◌+ℤ◌}
use Rattle.limits.proofs.Laws.{both_true}
use Rattle.kernel.specs.Offsets.{Offset, offsets, minus_one}
use Rattle.image.specs.Image.{nearest_place, pixel_at}
use Rattle.averaging.specs.Distances.{Differ}
use Rattle.averaging.specs.Neighbours.{around, is_place, is_inside, neighbours, each_neighbour}
use Rattle.averaging.proofs.Averages.{Each}
use Rattle.averaging.proofs.Images.{nearest_lt, one_back}

-- ---- lists of offsets
-- a test of each offset of a list that leads inside, and the same test of each offset there
module _ (inside test : Offset → Bool) where
  abbrev inside_of : List Offset → List Offset
  inside_of ds = foldr (λ d others. cond (inside d) (d ∷ others) others) [] ds

  abbrev all_pass : List Offset → Bool
  all_pass ds = foldr (λ d others. test d && others) true ds

  abbrev Passes : Offset → Type 0
  Passes d = inside d ≡ true → test d ≡ true

  passed : (ds : List Offset) → all_pass (inside_of ds) ≡ true → Each Passes ds
  passed [] e = tt
  passed (d ∷ ds) e = go (inside d) refl e (passed ds)
    where
      go : (t : Bool) → inside d ≡ t → all_pass (cond t (d ∷ inside_of ds) (inside_of ds)) ≡ true → (all_pass (inside_of ds) ≡ true → Each Passes ds)
          → Passes d × Each Passes ds
      go true i e rest = let both = both_true (test d) (all_pass (inside_of ds)) e in (λ _. both.0, rest both.1)
      go false i e rest = (λ t. absurd (true≢false (sym t ∙ i)), rest e)

  pass : (ds : List Offset) → Each Passes ds → all_pass (inside_of ds) ≡ true
  pass [] e = refl
  pass (d ∷ ds) e = go (inside d) refl (pass ds e.1)
    where
      go : (t : Bool) → inside d ≡ t → all_pass (inside_of ds) ≡ true → all_pass (cond t (d ∷ inside_of ds) (inside_of ds)) ≡ true
      go true i rest = rw (e.0 i, rest)
      go false i rest = rest

-- what follows from a test holds at each offset of a list of which each passes it
each_passing : (test : Offset → Bool) (P : Offset → Type 0) → ((d : Offset) → test d ≡ true → P d)
    → (ds : List Offset) → foldr (λ d others. test d && others) true ds ≡ true → Each P ds
each_passing test P f [] e = tt
each_passing test P f (d ∷ ds) e = let both = both_true (test d) _ e in (f d both.0, each_passing test P f ds both.1)

-- at most one column and one row away
abbrev is_near : Offset → Bool
is_near d = leb (nat_abs d.dx) 1 && leb (nat_abs d.dy) 1

near_axes : (d : Offset) → is_near d ≡ true → (nat_abs d.dx ≤ 1) × (nat_abs d.dy ≤ 1)
near_axes d e =
    let both = both_true (leb (nat_abs d.dx) 1) (leb (nat_abs d.dy) 1) e in
    (leb-true (nat_abs d.dx) 1 both.0, leb-true (nat_abs d.dy) 1 both.1)

-- ---- one axis
-- a place at most one from x, by the side on which it lies
side : (u x : ℕ) → Differ 1 u x → (pos x +ℤ minus_one ≡ pos u) ⊎ ((u ≡ x) ⊎ (pos x +ℤ pos 1 ≡ pos u))
side u zero near = go (eqb u 0) refl
  where
    go : (t : Bool) → eqb u 0 ≡ t → (pos 0 +ℤ minus_one ≡ pos u) ⊎ ((u ≡ 0) ⊎ (pos 0 +ℤ pos 1 ≡ pos u))
    go true e = inr (inl (eqb-true u 0 e))
    go false e = let ne = eqb-false u 0 e in inr (inr (ap pos (omega (arith, near.above))))
side u (suc x) near = go (eqb u x) (eqb u (suc x)) refl refl
  where
    go : (s t : Bool) → eqb u x ≡ s → eqb u (suc x) ≡ t → (pos (suc x) +ℤ minus_one ≡ pos u) ⊎ ((u ≡ suc x) ⊎ (pos (suc x) +ℤ pos 1 ≡ pos u))
    go true t e f = inl (one_back x ∙ ap pos (sym (eqb-true u x e)))
    go false true e f = inr (inl (eqb-true u (suc x) f))
    go false false e f =
        let a = eqb-false u x e in
        let b = eqb-false u (suc x) f in
        inr (inr (ap pos (omega (arith, near.above, near.below))))

-- the nearest place to one that is at most one from x is at most one from x
near_place : (n x : ℕ) (z : ℤ) → x < n → nat_abs z ≤ 1 → Differ 1 (nearest_place n (pos x +ℤ z)) x
near_place n x (pos i) l small = record { above = omega arith; below = omega arith }
near_place n zero (negsuc zero) l small = record { above = omega arith; below = omega arith }
near_place n (suc x) (negsuc zero) l small = rw (one_back x) (record { above = omega arith; below = omega arith })
near_place n x (negsuc (suc i)) l small = absurd (omega (arith, small))

-- a place inside, at an offset of at most one, is at most one away, and it is another place where the offset is not 0
place_at_lem : (n x : ℕ) (z : ℤ) → nat_abs z ≤ 1 → is_place n (pos x +ℤ z) ≡ true
    → (u : ℕ) × (pos x +ℤ z ≡ pos u) × (u < n) × Differ 1 u x × (u ≡ x → nat_abs z ≡ 0)
place_at_lem n x (pos i) small e = (x + i, refl, ltb-true (x + i) n e, record { above = omega arith; below = omega arith }, λ q. omega (arith, q))
place_at_lem n zero (negsuc zero) small e = absurd (true≢false (sym e))
place_at_lem n (suc x) (negsuc zero) small e =
    (x, one_back x, ltb-true x n (rw (one_back x) at e), record { above = omega arith; below = omega arith }, λ q. absurd (omega (arith, q)))
place_at_lem n x (negsuc (suc i)) small e = absurd (omega (arith, small))

-- a place inside is the nearest one to itself
pub nearest_own : (n x : ℕ) → x < n → nearest_place n (pos x) ≡ x
nearest_own n x l = omega arith

-- ---- neighbours
-- what holds at the eight offsets around a place holds at every other place at most one column and one row away
each_around : (P : ℤ → ℤ → Type 0) (x y : ℕ) → Each (λ d. P (pos x +ℤ d.dx) (pos y +ℤ d.dy)) around
    → (u v : ℕ) → Differ 1 u x → Differ 1 v y → (u ≡ x → v ≡ y → ⊥) → P (pos u) (pos v)
each_around P x y e u v across down other = go (side u x across) (side v y down)
  where
    same : {a b : ℕ} → b ≡ a → pos a +ℤ pos 0 ≡ pos b
    same {a} {b} q = ap pos (omega (arith, q))

    go : (pos x +ℤ minus_one ≡ pos u) ⊎ ((u ≡ x) ⊎ (pos x +ℤ pos 1 ≡ pos u))
        → (pos y +ℤ minus_one ≡ pos v) ⊎ ((v ≡ y) ⊎ (pos y +ℤ pos 1 ≡ pos v)) → P (pos u) (pos v)
    go (inl a) (inl b) = subst₂ P a b e.0
    go (inr (inl a)) (inl b) = subst₂ P (same a) b e.1.0
    go (inr (inr a)) (inl b) = subst₂ P a b e.1.1.0
    go (inl a) (inr (inl b)) = subst₂ P a (same b) e.1.1.1.0
    go (inr (inl a)) (inr (inl b)) = absurd (other a b)
    go (inr (inr a)) (inr (inl b)) = subst₂ P a (same b) e.1.1.1.1.0
    go (inl a) (inr (inr b)) = subst₂ P a b e.1.1.1.1.1.0
    go (inr (inl a)) (inr (inr b)) = subst₂ P (same a) b e.1.1.1.1.1.1.0
    go (inr (inr a)) (inr (inr b)) = subst₂ P a b e.1.1.1.1.1.1.1.0

module _ (w h : ℕ) (pixels : List ℕ) (x y : ℕ) where
  abbrev at : ℤ → ℤ → ℕ
  at u v = pixel_at w h pixels u v

  -- what holds of every other pixel inside the picture at most one column and one row away
  abbrev pub Around : (ℕ → Type 0) → Type 0
  Around P = (u v : ℕ) → u < w → v < h → Differ 1 u x → Differ 1 v y → (u ≡ x → v ≡ y → ⊥) → P (pixel_at w h pixels (pos u) (pos v))

  abbrev tested : (ℕ → ℕ → Bool) → Offset → Bool
  tested test d = test (at (pos x +ℤ d.dx) (pos y +ℤ d.dy)) (at (pos x) (pos y))

  -- THE NEIGHBOURS ARE THESE: a test holds of each neighbour exactly where it holds of every such pixel
  pub each_neighbour_lem : (test : ℕ → ℕ → Bool)
      → (each_neighbour test w h pixels x y ≡ true) ↔ Around (λ q. test q (pixel_at w h pixels (pos x) (pos y)) ≡ true)
  unfolding each_neighbour neighbours
  each_neighbour_lem test = (only, always)
    where
      only : each_neighbour test w h pixels x y ≡ true → Around (λ q. test q (at (pos x) (pos y)) ≡ true)
      only e u v a b across down other =
          each_around (λ u v. is_place w u && is_place h v ≡ true → test (at u v) (at (pos x) (pos y)) ≡ true) x y
          (passed (is_inside w h x y) (tested test) around e)
          u v across down other (rw (lt-ltb u w a, lt-ltb v h b))

      one : Around (λ q. test q (at (pos x) (pos y)) ≡ true) → (d : Offset) → is_near d && not (leb (nat_abs d.dx + nat_abs d.dy) 0) ≡ true
          → is_inside w h x y d ≡ true → tested test d ≡ true
      one f d near inside =
          let kind = both_true (is_near d) _ near in
          let axes = near_axes d kind.0 in
          let some = leb-false (nat_abs d.dx + nat_abs d.dy) 0 (not-true _ kind.1) in
          let both = both_true (is_place w (pos x +ℤ d.dx)) (is_place h (pos y +ℤ d.dy)) inside in
          let a = place_at_lem w x d.dx axes.0 both.0 in
          let b = place_at_lem h y d.dy axes.1 both.1 in
          subst₂ (λ u v. test (at u v) (at (pos x) (pos y)) ≡ true) (sym a.1) (sym b.1)
          (f a.0 b.0 a.2 b.2 a.3 b.3 (λ p q. omega (arith, some, a.4 p, b.4 q)))

      always : Around (λ q. test q (at (pos x) (pos y)) ≡ true) → each_neighbour test w h pixels x y ≡ true
      always f =
          pass (is_inside w h x y) (tested test) around
          (each_passing (λ d. is_near d && not (leb (nat_abs d.dx + nat_abs d.dy) 0)) (λ d. is_inside w h x y d ≡ true → tested test d ≡ true) (one f) around refl)

  -- outside the picture the nearest pixel is read, which stands at a place inside
  at_nearest : (u v : ℤ) → at u v ≡ at (pos (nearest_place w u)) (pos (nearest_place h v))
  unfolding pixel_at
  at_nearest u v = rw (twice w u, twice h v)
    where
      twice : (n : ℕ) (z : ℤ) → nearest_place n (pos (nearest_place n z)) ≡ nearest_place n z
      twice n (pos i) = omega arith
      twice n (negsuc i) = omega arith

  -- what holds of a pixel and of each of its neighbours holds of the nine pixels that a step reads
  pub nine_pixels : (P : ℕ → Type 0) → x < w → y < h → P (pixel_at w h pixels (pos x) (pos y)) → Around P
      → Each (λ d. P (pixel_at w h pixels (pos x +ℤ d.dx) (pos y +ℤ d.dy))) offsets
  nine_pixels P a b own others = each_passing is_near (λ d. P (at (pos x +ℤ d.dx) (pos y +ℤ d.dy))) one offsets refl
    where
      go : (u v : ℕ) (s t : Bool) → eqb u x ≡ s → eqb v y ≡ t → ((u ≡ x → v ≡ y → ⊥) → P (at (pos u) (pos v))) → P (at (pos u) (pos v))
      go u v true true e f other = rw (eqb-true u x e, eqb-true v y f) own
      go u v true false e f other = other (λ _ q. eqb-false v y f q)
      go u v false t e f other = other (λ p _. eqb-false u x e p)

      one : (d : Offset) → is_near d ≡ true → P (at (pos x +ℤ d.dx) (pos y +ℤ d.dy))
      one d near =
          let axes = near_axes d near in
          let u = nearest_place w (pos x +ℤ d.dx) in
          let v = nearest_place h (pos y +ℤ d.dy) in
          subst P (sym (at_nearest (pos x +ℤ d.dx) (pos y +ℤ d.dy)))
          (go u v (eqb u x) (eqb v y) refl refl
          (others u v (nearest_lt w (pos x +ℤ d.dx) (omega arith)) (nearest_lt h (pos y +ℤ d.dy) (omega arith))
          (near_place w x d.dx a axes.0) (near_place h y d.dy b axes.1)))
