-- Sums over the offsets: a moment splits into what its positive and its negative terms give, and a sum grows with its
-- terms. Assumes nothing.
use mathlib.Core.Path.{◌≡◌, sym, ap, ap₂, ◌∙◌}
use mathlib.Core.Bool.{Bool, true, ◌&&◌}
use mathlib.Core.List.{List, [], ◌∷◌}
use Prim.Native.Nat.{ℕ, ◌+◌, ◌*◌, ◌≤◌}
use native.Mathlib.Nat.{zero-mul, add-mul, mul-le-mul_left, add-le-add, le_refl}
use lib.Dec.{T, leb, leb→le}
use lib.Ieee.Fits.{and_l, and_r}
use lib.IntN.{ℤ, pos, ◌+ℤ◌, ◌*ℤ◌, *ℤ_comm}
use Rattle.kernel.specs.Offsets.{Offset, offsets, sum_over, total, moment, weighted}
use Rattle.kernel.proofs.Signs.{diff, plus, minus, parts, sum, scaled, times, crossed, equal}

split_over : (g : Offset → ℤ) (ds : List Offset) (ws : List ℕ)
    → sum_over ◌+ℤ◌ (pos 0) (λ d w. pos w *ℤ g d) ds ws
    ≡ diff (sum_over ◌+◌ 0 (λ d w. w * plus (g d)) ds ws) (sum_over ◌+◌ 0 (λ d w. w * minus (g d)) ds ws)
split_over g [] ws = parts (pos 0)
split_over g (d ∷ ds) [] = parts (pos 0)
split_over g (d ∷ ds) (w ∷ ws) =
    ap₂ ◌+ℤ◌ (scaled w (g d)) (split_over g ds ws)
    ∙ sum (w * plus (g d)) (w * minus (g d)) (sum_over ◌+◌ 0 (λ d w. w * plus (g d)) ds ws) (sum_over ◌+◌ 0 (λ d w. w * minus (g d)) ds ws)

pub split : (g : Offset → ℤ) (ws : List ℕ) → moment g ws ≡ diff (weighted (λ d. plus (g d)) ws) (weighted (λ d. minus (g d)) ws)
split g ws = split_over g offsets ws

-- a test at every offset, which computes
unfoldable pub every : (Offset → Bool) → List Offset → Bool
every p [] = true
every p (d ∷ ds) = p d && every p ds

mono_over : (p q : Offset → ℕ) (ds : List Offset) (ws : List ℕ) → T (every (λ d. leb (p d) (q d)) ds)
    → sum_over ◌+◌ 0 (λ d w. w * p d) ds ws ≤ sum_over ◌+◌ 0 (λ d w. w * q d) ds ws
unfolding every
mono_over p q [] ws t = le_refl 0
mono_over p q (d ∷ ds) [] t = le_refl 0
mono_over p q (d ∷ ds) (w ∷ ws) t =
    let rest = every (λ d. leb (p d) (q d)) ds in
    add-le-add (mul-le-mul_left w (leb→le (p d) (q d) (and_l (leb (p d) (q d)) rest t))) (mono_over p q ds ws (and_r (leb (p d) (q d)) rest t))

pub mono : (p q : Offset → ℕ) (ws : List ℕ) → T (every (λ d. leb (p d) (q d)) offsets) → weighted p ws ≤ weighted q ws
mono p q ws t = mono_over p q offsets ws t

constant_over : (c : ℕ) (ds : List Offset) (ws : List ℕ) → sum_over ◌+◌ 0 (λ d w. w * c) ds ws ≡ sum_over ◌+◌ 0 (λ d w. w) ds ws * c
constant_over c [] ws = sym (zero-mul c)
constant_over c (d ∷ ds) [] = sym (zero-mul c)
constant_over c (d ∷ ds) (w ∷ ws) = ap (λ x. w * c + x) (constant_over c ds ws) ∙ sym (add-mul w (sum_over ◌+◌ 0 (λ d w. w) ds ws) c)

-- the same value everywhere comes out times the sum of the weights
pub constant : (c : ℕ) (ws : List ℕ) → weighted (λ d. c) ws ≡ total ws * c
constant c ws = constant_over c offsets ws

-- a second moment's equation, in naturals
pub second : (m : ℕ) (z : ℤ) (g : Offset → ℤ) (ws : List ℕ) → pos m *ℤ moment g ws ≡ z *ℤ pos (total ws)
    → m * weighted (λ d. plus (g d)) ws + total ws * minus z ≡ total ws * plus z + m * weighted (λ d. minus (g d)) ws
second m z g ws h =
    let p = weighted (λ d. plus (g d)) ws in
    let n = weighted (λ d. minus (g d)) ws in
    crossed (m * p) (m * n) (total ws * plus z) (total ws * minus z)
    (sym (times m p n) ∙ ap (λ x. pos m *ℤ x) (sym (split g ws)) ∙ h ∙ *ℤ_comm z (pos (total ws)) ∙ scaled (total ws) z)

-- and back
pub second_of : (m : ℕ) (z : ℤ) (g : Offset → ℤ) (ws : List ℕ)
    → m * weighted (λ d. plus (g d)) ws + total ws * minus z ≡ total ws * plus z + m * weighted (λ d. minus (g d)) ws
    → pos m *ℤ moment g ws ≡ z *ℤ pos (total ws)
second_of m z g ws h =
    let p = weighted (λ d. plus (g d)) ws in
    let n = weighted (λ d. minus (g d)) ws in
    ap (λ x. pos m *ℤ x) (split g ws) ∙ times m p n
    ∙ equal (m * p) (m * n) (total ws * plus z) (total ws * minus z) h
    ∙ sym (*ℤ_comm z (pos (total ws)) ∙ scaled (total ws) z)
