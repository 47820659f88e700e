-- Worked examples: lists that are nine weights in the wide sense, for each condition of `Weights` lists that fail in that one
-- alone, and signed numbers taken apart. `Weights` asks exactly for the seven conditions that the table tests. Assumes nothing.
use mathlib.Core.Path.{◌≡◌, refl, sym, ap, subst}
use mathlib.Core.Bool.{Bool, true, false, cond, true≢false}
use mathlib.Core.Logic.{◌↔◌}
use mathlib.Core.List.{List, [], ◌∷◌, map}
use Prim.Native.Nat.{ℕ}
use native.Mathlib.Omega.{arith}
use lib.Dec.{eqb, ltb}
use lib.ListN.{length}
use lib.IntN.{ℤ, pos, negsuc, ◌*ℤ◌}
use borrow.Author.Tests.{eqb-true, eq-eqb, ltb-true, lt-ltb}
use Rattle.kernel.specs.Offsets.{total, moment}
use Rattle.kernel.specs.Existence.{Weights}

-- ---- the conditions of `Weights`, each as a test that computes
pub data Condition : Type 0 where
  Nine : Condition
  Positive : Condition
  MeanX : Condition
  MeanY : Condition
  SecondXX : Condition
  SecondXY : Condition
  SecondYY : Condition

abbrev pub same : ℤ → ℤ → Bool
same (pos a) (pos b) = eqb a b
same (pos a) (negsuc b) = false
same (negsuc a) (pos b) = false
same (negsuc a) (negsuc b) = eqb a b

abbrev pub unless : Bool → Condition → List Condition → List Condition
unless holds condition rest = cond holds rest (condition ∷ rest)

-- the conditions that a list does not meet
abbrev pub failing : ℤ → ℤ → ℤ → ℕ → List ℕ → List Condition
failing xx xy yy m ws =
    unless (eqb (length ws) 9) Nine
    (unless (ltb 0 (total ws)) Positive
    (unless (same (moment (λ d. d.dx) ws) (pos 0)) MeanX
    (unless (same (moment (λ d. d.dy) ws) (pos 0)) MeanY
    (unless (same (pos m *ℤ moment (λ d. d.dx *ℤ d.dx) ws) (xx *ℤ pos (total ws))) SecondXX
    (unless (same (pos m *ℤ moment (λ d. d.dx *ℤ d.dy) ws) (xy *ℤ pos (total ws))) SecondXY
    (unless (same (pos m *ℤ moment (λ d. d.dy *ℤ d.dy) ws) (yy *ℤ pos (total ws))) SecondYY []))))))

-- ---- a covariance, M, weights by row and then by column, and what they fail in
pub record Example : Type 0 where
  pub xx : ℤ
  pub xy : ℤ
  pub yy : ℤ
  pub m : ℕ
  pub weights : List ℕ
  pub fails : List Condition

abbrev pub example : ℤ → ℤ → ℤ → ℕ → List ℕ → List Condition → Example
example xx xy yy m weights fails = record { xx = xx; xy = xy; yy = yy; m = m; weights = weights; fails = fails }

-- weight 1 at (−1,−1), (1,0) and (0,1), which is no mirror image of itself: sums of dx and of dy 0, of dx · dx and of dy · dy 2, of
-- dx · dy 1, all over 3. With M = 12288 that is xx 8192, xy 4096, yy 8192.
abbrev pub triangle : List ℕ
triangle = 1 ∷ 0 ∷ 0 ∷ 0 ∷ 0 ∷ 1 ∷ 0 ∷ 1 ∷ 0 ∷ []

abbrev pub examples : List Example
examples =
    example (pos 8192) (pos 4096) (pos 8192) 12288 triangle []
    -- one to either side and two in the middle: half a square pixel in x alone; and the same in y
    ∷ example (pos 2048) (pos 0) (pos 0) 4096 (0 ∷ 0 ∷ 0 ∷ 1 ∷ 2 ∷ 1 ∷ 0 ∷ 0 ∷ 0 ∷ []) []
    ∷ example (pos 0) (pos 0) (pos 2048) 4096 (0 ∷ 1 ∷ 0 ∷ 0 ∷ 2 ∷ 0 ∷ 0 ∷ 1 ∷ 0 ∷ []) []
    -- one at (1,−1) and at (−1,1): xy is negative
    ∷ example (pos 4096) (negsuc 4095) (pos 4096) 4096 (0 ∷ 0 ∷ 1 ∷ 0 ∷ 0 ∷ 0 ∷ 1 ∷ 0 ∷ 0 ∷ []) []
    -- eight weights, and ten: what is past the ninth counts in no sum
    ∷ example (pos 8192) (pos 4096) (pos 8192) 12288 (1 ∷ 0 ∷ 0 ∷ 0 ∷ 0 ∷ 1 ∷ 0 ∷ 1 ∷ []) (Nine ∷ [])
    ∷ example (pos 8192) (pos 4096) (pos 8192) 12288 (1 ∷ 0 ∷ 0 ∷ 0 ∷ 0 ∷ 1 ∷ 0 ∷ 1 ∷ 0 ∷ 1 ∷ []) (Nine ∷ [])
    -- nine zeros have any covariance
    ∷ example (pos 8192) (pos 4096) (pos 8192) 12288 (0 ∷ 0 ∷ 0 ∷ 0 ∷ 0 ∷ 0 ∷ 0 ∷ 0 ∷ 0 ∷ []) (Positive ∷ [])
    -- (−1,0) for (1,0), and (0,−1) for (0,1): the same products
    ∷ example (pos 8192) (pos 4096) (pos 8192) 12288 (1 ∷ 0 ∷ 0 ∷ 1 ∷ 0 ∷ 0 ∷ 0 ∷ 1 ∷ 0 ∷ []) (MeanX ∷ [])
    ∷ example (pos 8192) (pos 4096) (pos 8192) 12288 (1 ∷ 1 ∷ 0 ∷ 0 ∷ 0 ∷ 1 ∷ 0 ∷ 0 ∷ 0 ∷ []) (MeanY ∷ [])
    -- the weights of another xx, xy or yy
    ∷ example (pos 4096) (pos 4096) (pos 8192) 12288 triangle (SecondXX ∷ [])
    ∷ example (pos 8193) (pos 4096) (pos 8192) 12288 triangle (SecondXX ∷ [])
    ∷ example (pos 8192) (pos 8192) (pos 8192) 12288 triangle (SecondXY ∷ [])
    ∷ example (pos 8192) (negsuc 4095) (pos 8192) 12288 triangle (SecondXY ∷ [])
    ∷ example (pos 8192) (pos 4096) (pos 4096) 12288 triangle (SecondYY ∷ [])
    ∷ example (pos 8192) (pos 4096) (pos 8191) 12288 triangle (SecondYY ∷ [])
    -- M twice as large: every second moment
    ∷ example (pos 8192) (pos 4096) (pos 8192) 24576 triangle (SecondXX ∷ SecondXY ∷ SecondYY ∷ [])
    ∷ []

pub failed : map (λ e. failing e.xx e.xy e.yy e.m e.weights) examples ≡ map (λ e. e.fails) examples
failed = refl

-- ---- `Weights` asks for these conditions and no more
same_true : (a b : ℤ) → same a b ≡ true → a ≡ b
same_true (pos a) (pos b) h = ap pos (eqb-true a b h)
same_true (pos a) (negsuc b) h = absurd (true≢false (sym h))
same_true (negsuc a) (pos b) h = absurd (true≢false (sym h))
same_true (negsuc a) (negsuc b) h = ap negsuc (eqb-true a b h)

same_self : (a : ℤ) → same a a ≡ true
same_self (pos a) = eq-eqb a a refl
same_self (negsuc a) = eq-eqb a a refl

true_same : {a b : ℤ} → a ≡ b → same a b ≡ true
true_same {a} {b} e = subst (λ b. same a b ≡ true) e (same_self a)

passes : (holds : Bool) (condition : Condition) (rest : List Condition) → unless holds condition rest ≡ [] → (holds ≡ true) × (rest ≡ [])
passes true condition rest h = (refl, h)
passes false condition rest h = let n = ap length h in absurd (omega arith)

and_so : (condition : Condition) {holds : Bool} {rest : List Condition} → holds ≡ true → rest ≡ [] → unless holds condition rest ≡ []
and_so condition h r = rw h r

meets : {xx xy yy : ℤ} {m : ℕ} (w : Weights xx xy yy m) → failing xx xy yy m w.weights ≡ []
meets w =
    and_so Nine (eq-eqb (length w.weights) 9 w.nine)
    (and_so Positive (lt-ltb 0 (total w.weights) w.positive)
    (and_so MeanX (true_same w.mean_x)
    (and_so MeanY (true_same w.mean_y)
    (and_so SecondXX (true_same w.second_xx)
    (and_so SecondXY (true_same w.second_xy)
    (and_so SecondYY (true_same w.second_yy) refl))))))

pub weights_exactly : (xx xy yy : ℤ) (m : ℕ) (ws : List ℕ)
    → ((w : Weights xx xy yy m) × (w.weights ≡ ws)) ↔ (failing xx xy yy m ws ≡ [])
weights_exactly xx xy yy m ws = (λ w. subst (λ ws. failing xx xy yy m ws ≡ []) w.1 (meets w.0), made)
  where
    made : failing xx xy yy m ws ≡ [] → (w : Weights xx xy yy m) × (w.weights ≡ ws)
    made h =
        let a = passes _ _ _ h in
        let b = passes _ _ _ a.1 in
        let c = passes _ _ _ b.1 in
        let d = passes _ _ _ c.1 in
        let e = passes _ _ _ d.1 in
        let f = passes _ _ _ e.1 in
        let g = passes _ _ _ f.1 in (
          record {
            weights = ws;
            nine = eqb-true _ _ a.0;
            positive = ltb-true _ _ b.0;
            mean_x = same_true _ _ c.0;
            mean_y = same_true _ _ d.0;
            second_xx = same_true _ _ e.0;
            second_xy = same_true _ _ f.0;
            second_yy = same_true _ _ g.0;
          },
          refl,
        )
