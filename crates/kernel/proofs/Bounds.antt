-- The free numbers between the two bounds that make all weights nonnegative: those of the choices lie there, each of them has a sound
-- kernel, and they are exactly those whose molecule has no negative weight. Assumes nothing.
use mathlib.Core.Path.{◌≡◌, refl, sym, ap, ap₂, ◌∙◌, subst}
use mathlib.Core.Bool.{Bool, true, false, ◌&&◌, true≢false}
use mathlib.Core.Logic.{◌↔◌}
use mathlib.Core.List.{List, [], ◌∷◌, map}
use Prim.Native.Nat.{ℕ, ◌+◌, ◌-◌, ◌*◌, ◌≤◌, min, max}
use native.Mathlib.Omega.{arith}
use borrow.Author.Tests.{ltb-true, le-leb, leb-true}
use lib.Dec.{leb}
use lib.IntN.{ℤ, pos, negsuc, nat_abs, ◌+ℤ◌, ◌-ℤ◌, ◌*ℤ◌}
use lib.Signed.{◌≤ℤ◌, le_z, lt_z}
use Rattle.limits.specs.Limits.{steps_in_range, most_steps}
use Rattle.limits.proofs.Laws.{both_true, in_range_lem}
use Rattle.kernel.specs.declared.Choice.{Choice}
use Rattle.kernel.specs.Offsets.{minus_one}
use Rattle.kernel.specs.Molecule.{units_of, free_number, molecule, kernel_with}
use Rattle.kernel.specs.Choice.{free_number_by, free_by, kernel_by}
use Rattle.kernel.specs.Existence.{kernel_exists, free_fits}
use Rattle.kernel.specs.Sound.{Sound}
use Rattle.kernel.proofs.Signs.{diff, plus, minus, parts, neg_parts, sum, times, crossed}
use Rattle.kernel.proofs.Plain.{free, choose_smaller, free_of, free_by_lem, exists_plain, none_x, none_y, no_negative_x, no_negative_y, plain, Between, between_from, weights}
use Rattle.kernel.proofs.Answers.{smallest_of}
use Rattle.kernel.proofs.Theorems.{is_le, between, with_sound}

-- ---- the test in naturals, once the signs are off
pub fits_plain : (a : ℕ) (xy : ℤ) (b f m : ℕ) → free_fits (pos a) xy (pos b) f m ≡ leb (max (nat_abs xy) (a + b - m)) f && leb f (min a b)
unfolding free_fits
fits_plain a xy b f m = ap₂ (λ low high. le_z low (pos f) && le_z (pos f) high) (free a xy b m) (choose_smaller a b)

and_false : (t : Bool) → t && false ≡ false
and_false true = refl
and_false false = refl

-- a negative variance has no free number
pub fits_none_x : (a : ℕ) (xy yy : ℤ) (f m : ℕ) → free_fits (negsuc a) xy yy f m ≡ false
unfolding free_fits
fits_none_x a xy yy f m =
    ap (λ t. le_z (free_number (negsuc a) xy yy m) (pos f) && t) (no_negative_x f a yy) ∙ and_false (le_z (free_number (negsuc a) xy yy m) (pos f))

pub fits_none_y : (b : ℕ) (xx xy : ℤ) (f m : ℕ) → free_fits xx xy (negsuc b) f m ≡ false
unfolding free_fits
fits_none_y b xx xy f m =
    ap (λ t. le_z (free_number xx xy (negsuc b) m) (pos f) && t) (no_negative_y f b xx) ∙ and_false (le_z (free_number xx xy (negsuc b) m) (pos f))

-- the test of a covariance whose signs are off, as the code makes it
pub fits_negative_x : (x z y : ℤ) (f m : ℕ) → lt_z x (pos 0) ≡ true → free_fits x z y f m ≡ false
fits_negative_x (pos a) z y f m h = let g = ltb-true a 0 h in absurd (omega arith)
fits_negative_x (negsuc a) z y f m h = fits_none_x a z y f m

pub fits_negative_y : (x z y : ℤ) (f m : ℕ) → lt_z y (pos 0) ≡ true → free_fits x z y f m ≡ false
fits_negative_y x z (pos b) f m h = let g = ltb-true b 0 h in absurd (omega arith)
fits_negative_y x z (negsuc b) f m h = fits_none_y b x z f m

pub fits_test : (x z y : ℤ) (f m : ℕ) → lt_z x (pos 0) ≡ false → lt_z y (pos 0) ≡ false
    → free_fits x z y f m ≡ leb (smallest_of x z y m) f && leb f (min (nat_abs x) (nat_abs y))
fits_test (pos a) z (pos b) f m g h = fits_plain a z b f m
fits_test (pos a) z (negsuc b) f m g h = absurd (true≢false h)
fits_test (negsuc a) z y f m g h = absurd (true≢false g)

pub fits_between : (a : ℕ) (xy : ℤ) (b f m : ℕ) → free_fits (pos a) xy (pos b) f m ≡ true → Between a (nat_abs xy) b f m
fits_between a xy b f m h =
    let t = both_true (leb (max (nat_abs xy) (a + b - m)) f) (leb f (min a b)) (sym (fits_plain a xy b f m) ∙ h) in
    between_from a (nat_abs xy) b m f (leb-true (max (nat_abs xy) (a + b - m)) f t.0) (leb-true f (min a b) t.1)

pub between_fits : (a : ℕ) (xy : ℤ) (b f m : ℕ) → Between a (nat_abs xy) b f m → free_fits (pos a) xy (pos b) f m ≡ true
between_fits a xy b f m h =
    let low : max (nat_abs xy) (a + b - m) ≤ f = omega (arith, h.leans, h.steps) in
    let high : f ≤ min a b = omega (arith, h.across, h.down) in
    fits_plain a xy b f m ∙ ap₂ ◌&&◌ (le-leb (max (nat_abs xy) (a + b - m)) f low) (le-leb f (min a b) high)

-- what a free number between the bounds says of any three numbers: the variances have no sign, and it stands between their sizes
pub record Fitting (xx xy yy : ℤ) (f m : ℕ) : Type 0 where
  pub x_is : pos (nat_abs xx) ≡ xx
  pub y_is : pos (nat_abs yy) ≡ yy
  pub stands : Between (nat_abs xx) (nat_abs xy) (nat_abs yy) f m

pub fitting : (xx xy yy : ℤ) (f m : ℕ) → free_fits xx xy yy f m ≡ true → Fitting xx xy yy f m
fitting (pos a) xy (pos b) f m h = record { x_is = refl; y_is = refl; stands = fits_between a xy b f m h }
fitting (pos a) xy (negsuc b) f m h = absurd (true≢false (sym h ∙ fits_none_y b (pos a) xy f m))
fitting (negsuc a) xy yy f m h = absurd (true≢false (sym h ∙ fits_none_x a xy yy f m))

-- ---- the free number of a choice
-- where a kernel exists it has no sign to lose
pub free_is : (choice : Choice) (xx xy yy : ℤ) (k : ℕ) → kernel_exists xx xy yy (units_of k) ≡ true
    → pos (free_by choice xx xy yy k) ≡ free_number_by choice xx xy yy (units_of k)
free_is choice (pos a) xy (pos b) k e = let is = free_by_lem choice a xy b (units_of k) in ap (λ f. pos (nat_abs f)) is ∙ sym is
free_is choice (pos a) xy (negsuc b) k e = absurd (true≢false (sym e ∙ none_y b (pos a) xy (units_of k)))
free_is choice (negsuc a) xy yy k e = absurd (true≢false (sym e ∙ none_x a xy yy (units_of k)))

-- so the kernel from what the record holds is the kernel of the choice
pub free_kernel : (choice : Choice) (xx xy yy : ℤ) (k : ℕ) → kernel_exists xx xy yy (units_of k) ≡ true
    → kernel_with xx xy yy (pos (free_by choice xx xy yy k)) k ≡ kernel_by choice xx xy yy k
free_kernel choice xx xy yy k e = ap (λ f. kernel_with xx xy yy f k) (free_is choice xx xy yy k e)

-- and it lies between the bounds
pub choice_fits : (choice : Choice) (xx xy yy : ℤ) (k : ℕ) → kernel_exists xx xy yy (units_of k) ≡ true
    → free_fits xx xy yy (free_by choice xx xy yy k) (units_of k) ≡ true
choice_fits choice (pos a) xy (pos b) k e =
    ap (λ f. free_fits (pos a) xy (pos b) (nat_abs f) (units_of k)) (free_by_lem choice a xy b (units_of k))
    ∙ between_fits a xy b (free_of choice (nat_abs xy) a b (units_of k)) (units_of k) (between choice a xy b (units_of k) e)
choice_fits choice (pos a) xy (negsuc b) k e = absurd (true≢false (sym e ∙ none_y b (pos a) xy (units_of k)))
choice_fits choice (negsuc a) xy yy k e = absurd (true≢false (sym e ∙ none_x a xy yy (units_of k)))

-- ---- any free number between the bounds
-- there is none where no kernel exists
pub fits_exists : (xx xy yy : ℤ) (f m : ℕ) → free_fits xx xy yy f m ≡ true → kernel_exists xx xy yy m ≡ true
fits_exists (pos a) xy (pos b) f m h =
    let w = fits_between a xy b f m h in
    let l : max (nat_abs xy) (a + b - m) ≤ min a b = omega (arith, w.leans, w.steps, w.across, w.down) in
    exists_plain a xy b m ∙ le-leb (max (nat_abs xy) (a + b - m)) (min a b) l
fits_exists (pos a) xy (negsuc b) f m h = absurd (true≢false (sym h ∙ fits_none_y b (pos a) xy f m))
fits_exists (negsuc a) xy yy f m h = absurd (true≢false (sym h ∙ fits_none_x a xy yy f m))

-- its kernel is symmetric, with the sum that a step divides by
pub fits_sound : (xx xy yy : ℤ) (f k : ℕ) → steps_in_range k ≡ true → free_fits xx xy yy f (units_of k) ≡ true
    → Sound (kernel_with xx xy yy (pos f) k) k
fits_sound (pos a) xy (pos b) f k s h =
    let r = in_range_lem 1 most_steps k s in with_sound a xy b f k r.0 r.1 (fits_between a xy b f (units_of k) h)
fits_sound (pos a) xy (negsuc b) f k s h = absurd (true≢false (sym h ∙ fits_none_y b (pos a) xy f (units_of k)))
fits_sound (negsuc a) xy yy f k s h = absurd (true≢false (sym h ∙ fits_none_x a xy yy f (units_of k)))

-- it is at most M, so that it stays far below what 32 bits hold: both variances are at least f, and their sum at most M + f
pub fits_small : (xx xy yy : ℤ) (f m : ℕ) → free_fits xx xy yy f m ≡ true → f ≤ m
fits_small (pos a) xy (pos b) f m h =
    let w = fits_between a xy b f m h in omega (arith, w.steps, w.across, w.down)
fits_small (pos a) xy (negsuc b) f m h = absurd (true≢false (sym h ∙ fits_none_y b (pos a) xy f m))
fits_small (negsuc a) xy yy f m h = absurd (true≢false (sym h ∙ fits_none_x a xy yy f m))

-- ---- "the two bounds that make all weights nonnegative"
abbrev pub NoneNegative : List ℤ → Type 0
NoneNegative [] = Unit {0}
NoneNegative (w ∷ ws) = (pos 0 ≤ℤ w) × NoneNegative ws

none_of_naturals : (ws : List ℕ) → NoneNegative (map pos ws)
none_of_naturals [] = tt
none_of_naturals (w ∷ ws) = (is_le (omega arith), none_of_naturals ws)

-- a difference that is not negative
at_least : (z : ℤ) (a b : ℕ) → z ≡ diff a b → pos 0 ≤ℤ z → b ≤ a
at_least (pos n) a b e h = let c = crossed n 0 a b (sym (parts (pos n)) ∙ e) in omega arith
at_least (negsuc n) a b e h = absurd h.le

-- what a weight of each kind that is not negative says of f: the two diagonals, a side, and the centre
leaning : (f : ℕ) (xy : ℤ) → pos 0 ≤ℤ (pos f +ℤ xy) → pos 0 ≤ℤ (pos f -ℤ xy) → nat_abs xy ≤ f
leaning f xy up down =
    let u = at_least (pos f +ℤ xy) (f + plus xy) (0 + minus xy) (ap₂ ◌+ℤ◌ (parts (pos f)) (parts xy) ∙ sum f 0 (plus xy) (minus xy)) up in
    let d = at_least (pos f -ℤ xy) (f + minus xy) (0 + plus xy) (ap₂ ◌+ℤ◌ (parts (pos f)) (neg_parts xy) ∙ sum f 0 (minus xy) (plus xy)) down in
    go xy u d
  where
    go : (z : ℤ) → 0 + minus z ≤ f + plus z → 0 + plus z ≤ f + minus z → nat_abs z ≤ f
    go (pos n) u d = omega arith
    go (negsuc n) u d = omega arith

beside : (v : ℤ) (f : ℕ) → pos 0 ≤ℤ (pos 2 *ℤ (v -ℤ pos f)) → f + minus v ≤ plus v
beside v f h =
    let is = ap (λ z. pos 2 *ℤ z) (ap₂ ◌+ℤ◌ (parts v) (neg_parts (pos f)) ∙ sum (plus v) (minus v) 0 f) ∙ times 2 (plus v + 0) (minus v + f) in
    let l = at_least (pos 2 *ℤ (v -ℤ pos f)) (2 * (plus v + 0)) (2 * (minus v + f)) is h in
    omega arith

middle : (a b f m : ℕ) → pos 0 ≤ℤ (pos 4 *ℤ (pos m -ℤ pos a -ℤ pos b +ℤ pos f)) → a + b ≤ m + f
middle a b f m h =
    let ab = ap₂ ◌+ℤ◌ (ap₂ ◌+ℤ◌ (parts (pos m)) (neg_parts (pos a)) ∙ sum m 0 0 a) (neg_parts (pos b)) ∙ sum (m + 0) (0 + a) 0 b in
    let is = ap (λ z. pos 4 *ℤ z) (ap₂ ◌+ℤ◌ ab (parts (pos f)) ∙ sum (m + 0 + 0) (0 + a + b) f 0) ∙ times 4 (m + 0 + 0 + f) (0 + a + b + 0) in
    let l = at_least (pos 4 *ℤ (pos m -ℤ pos a -ℤ pos b +ℤ pos f)) (4 * (m + 0 + 0 + f)) (4 * (0 + a + b + 0)) is h in
    omega arith

-- f is between the bounds exactly where no weight of its molecule is negative, for any three numbers and any M
pub fits_exactly : (xx xy yy : ℤ) (f m : ℕ) → (free_fits xx xy yy f m ≡ true) ↔ NoneNegative (molecule xx xy yy (pos f) m)
fits_exactly xx xy yy f m = (to xx yy, from xx yy)
  where
    to : (xx yy : ℤ) → free_fits xx xy yy f m ≡ true → NoneNegative (molecule xx xy yy (pos f) m)
    to (pos a) (pos b) h = subst NoneNegative (sym (weights a xy b f m (fits_between a xy b f m h))) (none_of_naturals (plain a xy b f m))
    to (pos a) (negsuc b) h = absurd (true≢false (sym h ∙ fits_none_y b (pos a) xy f m))
    to (negsuc a) yy h = absurd (true≢false (sym h ∙ fits_none_x a xy yy f m))

    from : (xx yy : ℤ) → NoneNegative (molecule xx xy yy (pos f) m) → free_fits xx xy yy f m ≡ true
    from (pos a) (pos b) h =
        between_fits a xy b f m
        (record {
          leans = leaning f xy h.0 h.1.1.0;
          steps = middle a b f m h.1.1.1.1.0;
          across = let l = beside (pos a) f h.1.1.1.0 in omega arith;
          down = let l = beside (pos b) f h.1.0 in omega arith;
        })
    from (pos a) (negsuc b) h = let l = beside (negsuc b) f h.1.0 in absurd (omega arith)
    from (negsuc a) yy h = let l = beside (negsuc a) f h.1.1.1.0 in absurd (omega arith)

-- ---- a covariance, M, a free number, and whether it lies between the bounds
pub record Fit : Type 0 where
  pub xx : ℤ
  pub xy : ℤ
  pub yy : ℤ
  pub m : ℕ
  pub f : ℕ
  pub fits : Bool

abbrev pub fit : ℤ → ℤ → ℤ → ℕ → ℕ → Bool → Fit
fit xx xy yy m f fits = record { xx = xx; xy = xy; yy = yy; m = m; f = f; fits = fits }

abbrev pub fit_table : List Fit
fit_table =
    -- case e, whose f was 1 and is 2049 by S-2: every number between is in order too, and none below 1 or above the smaller variance
    fit (pos 4097) (pos 0) (pos 4096) 8192 0 false
    ∷ fit (pos 4097) (pos 0) (pos 4096) 8192 1 true
    ∷ fit (pos 4097) (pos 0) (pos 4096) 8192 2 true
    ∷ fit (pos 4097) (pos 0) (pos 4096) 8192 2049 true
    ∷ fit (pos 4097) (pos 0) (pos 4096) 8192 4096 true
    ∷ fit (pos 4097) (pos 0) (pos 4096) 8192 4097 false
    -- with the variances exchanged
    ∷ fit (pos 4096) (pos 0) (pos 4097) 8192 0 false
    ∷ fit (pos 4096) (pos 0) (pos 4097) 8192 4096 true
    ∷ fit (pos 4096) (pos 0) (pos 4097) 8192 4097 false
    -- case a
    ∷ fit (pos 2048) (pos 0) (pos 2048) 4096 0 true
    ∷ fit (pos 2048) (pos 0) (pos 2048) 4096 1024 true
    ∷ fit (pos 2048) (pos 0) (pos 2048) 4096 2048 true
    ∷ fit (pos 2048) (pos 0) (pos 2048) 4096 2049 false
    -- case f: one number alone
    ∷ fit (pos 1000) (pos 1000) (pos 1000) 4096 999 false
    ∷ fit (pos 1000) (pos 1000) (pos 1000) 4096 1000 true
    ∷ fit (pos 1000) (pos 1000) (pos 1000) 4096 1001 false
    -- xy below 0: its size counts
    ∷ fit (pos 2048) (negsuc 1499) (pos 2048) 4096 0 false
    ∷ fit (pos 2048) (negsuc 1499) (pos 2048) 4096 1499 false
    ∷ fit (pos 2048) (negsuc 1499) (pos 2048) 4096 1500 true
    ∷ fit (pos 2048) (negsuc 1499) (pos 2048) 4096 2048 true
    ∷ fit (pos 2048) (negsuc 1499) (pos 2048) 4096 2049 false
    -- either variance below 0
    ∷ fit minus_one (pos 0) (pos 0) 4096 0 false
    ∷ fit (pos 0) (pos 0) minus_one 4096 0 false
    ∷ fit minus_one (pos 0) (pos 100) 4096 1 false
    -- where no kernel exists no number fits: 15904 is the lower bound, 10000 the upper
    ∷ fit (pos 10000) (pos 0) (pos 10000) 4096 0 false
    ∷ fit (pos 10000) (pos 0) (pos 10000) 4096 10000 false
    ∷ fit (pos 10000) (pos 0) (pos 10000) 4096 15904 false
    -- nothing but 0 for a picture that stays as it is, up to the end of 32 bits
    ∷ fit (pos 0) (pos 0) (pos 0) 4096 0 true
    ∷ fit (pos 0) (pos 0) (pos 0) 4096 1 false
    ∷ fit (pos 0) (pos 0) (pos 0) 4096 4294967295 false
    ∷ []

pub fits_computed : map (λ e. fit e.xx e.xy e.yy e.m e.f (free_fits e.xx e.xy e.yy e.f e.m)) fit_table ≡ fit_table
unfolding free_fits
fits_computed = refl
