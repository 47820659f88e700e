-- Images by their entries: how many an image has, which stands at a column and a row, that an image is given by its entries, and
-- lists that a loop fills entry by entry. Over any type of entries: pixels, signed differences, floats, slots. Assumes nothing.
use mathlib.Core.Path.{◌≡◌, refl, sym, ap, ap₂, subst, ◌∙◌}
use mathlib.Core.Logic.{◌⊎◌, inl, inr}
use mathlib.Core.List.{List, [], ◌∷◌, ◌++◌}
use Prim.Native.Nat.{ℕ, zero, suc, ◌+◌, ◌-◌, ◌*◌, ◌/◌, ◌%◌, ◌≤◌, ◌<◌, min}
use native.Mathlib.Nat.{mul-one, mul_comm, mul-le-mul_right, le_of_suc-le-suc, not-suc-le-zero, eq-or-lt_of_le}
use native.Mathlib.Nat.{div-add-mod', div-lt_iff_lt-mul, mod-lt}
use native.Mathlib.Numerals.{add-one}
use native.Mathlib.Omega.{arith}
use lib.ListN.{length, get_or, set, take, length-append, length-set, get_or-append}
use lib.Seq.{get_or-append-add, ext_get_or, take-suc-set, take_all}
use lib.IntN.{ℤ, pos, negsuc, ◌+ℤ◌}
use borrow.Author.Tests.{le-ltb}
use Rattle.image.specs.Image.{nearest_place, entries, rows, image_of}

-- ---- places

-- column x of row y is one of the w × h places
pub place_lt : (w h x y : ℕ) → x < w → y < h → y * w + x < w * h
place_lt w h x y a b = let g : suc y * w ≤ h * w = mul-le-mul_right w b in omega arith

-- what holds at every column and row holds at every place
pub every_place_lem : (w h : ℕ) (P : ℕ → Type 0) → ((x y : ℕ) → x < w → y < h → P (y * w + x)) → (i : ℕ) → i < w * h → P i
every_place_lem zero h P f i l = absurd (omega (arith, l))
every_place_lem (suc w) h P f i l =
    subst P (div-add-mod' i (suc w))
    (f (i % suc w) (i / suc w) (mod-lt i (omega arith)) ((div-lt_iff_lt-mul (omega arith)).1 (rw (mul_comm h (suc w)) l)))

-- the nearest of n places is one of them
pub nearest_lt : (n : ℕ) (z : ℤ) → 1 ≤ n → nearest_place n z < n
nearest_lt n (pos i) l = omega arith
nearest_lt n (negsuc i) l = l

-- one place back from i + 1 is i
pub one_back : (i : ℕ) → pos (suc i) +ℤ negsuc 0 ≡ pos i
one_back i = rw (le-ltb (suc i) 1 (omega arith)) (ap pos (omega arith))

-- so the nearest place to the one before i. Those to i and to the one after it compute.
pub place_before : (n i : ℕ) → nearest_place n (pos i +ℤ negsuc 0) ≡ min (i - 1) (n - 1)
place_before n zero = omega arith
place_before n (suc i) = rw (one_back i) (omega arith)

-- ---- entries
module _ {A : Type 0} where
  -- n rows of w entries each have n × w entries
  pub length_rows : (n w : ℕ) (f : ℕ → List A) → ((y : ℕ) → length (f y) ≡ w) → length (rows n f) ≡ n * w
  unfolding rows
  length_rows zero w f e = omega arith
  length_rows (suc n) w f e = length-append (rows n f) (f n) ∙ omega (arith, length_rows n w f e, e n)

  -- and entry x of row y stands at y × w + x
  pub row_entry : (n w : ℕ) (f : ℕ → List A) (d : A) → ((y : ℕ) → length (f y) ≡ w) → (x y : ℕ) → x < w → y < n
      → get_or (rows n f) (y * w + x) d ≡ get_or (f y) x d
  unfolding rows
  row_entry zero w f d e x y a b = absurd (not-suc-le-zero b)
  row_entry (suc n) w f d e x y a b = go (row_entry n w f d e x y a) (eq-or-lt_of_le (le_of_suc-le-suc b))
    where
      go : (y < n → get_or (rows n f) (y * w + x) d ≡ get_or (f y) x d) → (y ≡ n) ⊎ (y < n)
          → get_or (rows n f ++ f n) (y * w + x) d ≡ get_or (f y) x d
      go before (inl q) =
          ap (λ k. get_or (rows n f ++ f n) k d) (omega (arith, length_rows n w f e, ap (λ k. k * w) q))
          ∙ get_or-append-add (rows n f) (f n) x d ∙ ap (λ k. get_or (f k) x d) (sym q)
      go before (inr l) =
          let m : suc y * w ≤ n * w = mul-le-mul_right w l in
          get_or-append (rows n f) (f n) d (y * w + x) (omega (arith, length_rows n w f e)) ∙ before l

  -- entries are rows of one entry each
  as_rows : (n : ℕ) (f : ℕ → A) → entries n f ≡ rows n (λ i. f i ∷ [])
  unfolding entries rows
  as_rows zero f = refl
  as_rows (suc n) f = ap (λ l. l ++ (f n ∷ [])) (as_rows n f)

  -- f 0, .. f (n − 1) are n entries
  pub length_entries : (n : ℕ) (f : ℕ → A) → length (entries n f) ≡ n
  length_entries n f = ap length (as_rows n f) ∙ length_rows n 1 (λ i. f i ∷ []) (λ i. refl) ∙ mul-one n

  -- and entry i is f i
  pub entry : (n : ℕ) (f : ℕ → A) (d : A) (i : ℕ) → i < n → get_or (entries n f) i d ≡ f i
  entry n f d i l =
      ap₂ (λ es k. get_or es k d) (as_rows n f) (omega arith) ∙ row_entry n 1 (λ i. f i ∷ []) d (λ i. refl) 0 i (omega arith) l

  -- entries that agree below n
  pub same_entries : (n : ℕ) (f g : ℕ → A) → ((i : ℕ) → i < n → f i ≡ g i) → entries n f ≡ entries n g
  unfolding entries
  same_entries zero f g same = refl
  same_entries (suc n) f g same = ap₂ (λ l v. l ++ (v ∷ [])) (same_entries n f g (λ i l. same i (omega arith))) (same n (omega arith))

  -- a list of n is its entries
  pub own_entries : (n : ℕ) (d : A) (l : List A) → length l ≡ n → l ≡ entries n (λ i. get_or l i d)
  own_entries n d l e =
      ext_get_or d l (entries n (λ i. get_or l i d)) (e ∙ sym (length_entries n (λ i. get_or l i d)))
      (λ i h. sym (entry n (λ i. get_or l i d) d i (omega (arith, e, h))))

  -- ---- lists of n that are filled from the front, entry by entry: the invariant of such a loop
  pub record Filled (n : ℕ) (f : ℕ → A) (o : List A) (i : ℕ) : Type 0 where
    pub passed : i ≤ n
    pub long : length o ≡ n
    pub done : take i o ≡ entries i f

  pub filled_none : (n : ℕ) (f : ℕ → A) (o : List A) → length o ≡ n → Filled n f o 0
  unfolding entries
  filled_none n f o l = record { passed = omega arith; long = l; done = refl }

  pub filled_more : (n : ℕ) (f : ℕ → A) (o : List A) (i : ℕ) {v : A} → Filled n f o i → i < n → v ≡ f i → Filled n f (set o i v) (i + 1)
  unfolding entries
  filled_more n f o i {v} w h e =
      let g : i < length o = omega (arith, w.long) in
      record { passed = omega arith; long = length-set o i v ∙ w.long; done = rw (add-one i, take-suc-set o i v g, w.done, e) }

  pub filled_all : (n : ℕ) (f : ℕ → A) (o : List A) (i : ℕ) → Filled n f o i → n ≤ i → o ≡ entries n f
  filled_all n f o i w h =
      let e : i ≡ n = omega (arith, w.passed) in
      sym (take_all i o (omega (arith, w.long))) ∙ w.done ∙ ap (λ (i : ℕ). entries i f) e

  -- with the entries of a list that is as long it becomes that list
  pub filled_copy : (d : A) (source o : List A) (i : ℕ) → Filled (length source) (λ k. get_or source k d) o i → length source ≤ i → o ≡ source
  filled_copy d source o i w h =
      filled_all (length source) (λ k. get_or source k d) o i w h ∙ sym (own_entries (length source) d source refl)

  -- ---- images
  -- an image has h rows of w entries, so w × h entries
  pub length_by_rows : (w h : ℕ) (f : ℕ → ℕ → A) → length (image_of w h f) ≡ h * w
  length_by_rows w h f = length_rows h w (λ y. entries w (λ x. f x y)) (λ y. length_entries w (λ x. f x y))

  pub length_image : (w h : ℕ) (f : ℕ → ℕ → A) → length (image_of w h f) ≡ w * h
  length_image w h f = length_by_rows w h f ∙ mul_comm h w

  -- the entry at column x and row y
  pub image_entry : (w h : ℕ) (f : ℕ → ℕ → A) (d : A) (x y : ℕ) → x < w → y < h → get_or (image_of w h f) (y * w + x) d ≡ f x y
  image_entry w h f d x y a b =
      row_entry h w (λ y. entries w (λ x. f x y)) d (λ y. length_entries w (λ x. f x y)) x y a b ∙ entry w (λ x. f x y) d x a

  -- a list of w × h entries is the image of its entries
  pub image_of_entries : (w h : ℕ) (d : A) (l : List A) (f : ℕ → ℕ → A) → length l ≡ w * h
      → ((x y : ℕ) → x < w → y < h → get_or l (y * w + x) d ≡ f x y) → l ≡ image_of w h f
  image_of_entries w h d l f e same =
      ext_get_or d l (image_of w h f) (e ∙ sym (length_image w h f))
      (λ i m. every_place_lem w h (λ i. get_or l i d ≡ get_or (image_of w h f) i d)
      (λ x y a b. same x y a b ∙ sym (image_entry w h f d x y a b)) i (omega (arith, e, m)))
