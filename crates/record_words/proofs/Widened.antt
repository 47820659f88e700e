-- The words of a record from before slots held f, in the places of this library's: they hold a record where the old words do, and the same one;
-- each f of it is 0. Assumes nothing.
use mathlib.Core.Path.{◌≡◌, refl, sym, ◌∙◌, ap, ap₂, subst}
use mathlib.Core.Bool.{Bool, true, false, ◌&&◌, cond}
use mathlib.Core.List.{List}
use Prim.Native.Nat.{ℕ, zero, suc, ◌+◌, ◌*◌, ◌%◌, ◌^◌, ◌<◌, ◌≤◌}
use native.Mathlib.Nat.{mod-eq_of_lt}
use native.Mathlib.Numerals.{add-one}
use native.Mathlib.Omega.{arith}
use borrow.Author.Tests.{eqb-true, eqb-false, eq-eqb}
use lib.Dec.{eqb, ltb}
use Rattle.std.proofs.Math.Bool.{and-true}
use lib.ListN.{length, get_or, replicate, length-replicate, get_or-replicate}
use Rattle.averaging.proofs.Images.{same_entries}
use Rattle.machine.proofs.Counts.{every_none}
use Rattle.machine.proofs.Parts.{length_part, part_own, part_other, length_put}
use Rattle.machine.specs.Rules.{base_rules, current_rules}
use Rattle.machine.specs.Store.{part, put}
use Rattle.record_words.specs.Words.{word_count, word_at, words_fit, fields_fit, slot_of, slots_of, service_of, widened_slots, widened}
use Rattle.record_words.proofs.Laws.{fit_next}
use Rattle.record_words.proofs.ReadBack.{part_at}

-- ---- slot by slot
pub widened_none : (old words : List ℕ) → widened_slots old 0 words ≡ words
unfolding widened_slots
widened_none old words = refl

pub widened_more : (old : List ℕ) (n : ℕ) (words : List ℕ) → widened_slots old (n + 1) words ≡ put (9 * n) (part (8 * n) 8 old) (widened_slots old n words)
unfolding widened_slots
widened_more old n words = rw (add-one n)

module _ (old : List ℕ) (long : length old ≡ word_count base_rules) where
  -- the words of an old slot
  eight : (n : ℕ) → n < 8 → length (part (8 * n) 8 old) ≡ 8
  eight n h = length_part (8 * n) 8 old (omega (arith, long))

  three : length (part 64 3 old) ≡ 3
  three = length_part 64 3 old (omega (arith, long))

  pub widened_length : (n : ℕ) (words : List ℕ) → n ≤ 8 → length words ≡ word_count current_rules → length (widened_slots old n words) ≡ word_count current_rules
  unfolding widened_slots
  widened_length zero words h e = e
  widened_length (suc n) words h e =
      let before = widened_length n words (omega arith) e in
      let own = eight n (omega arith) in
      length_put (9 * n) (part (8 * n) 8 old) (widened_slots old n words) (omega (arith, own, before)) ∙ before

  module _ (words : List ℕ) (all : length words ≡ word_count current_rules) where
    -- they stand at the place of the slot
    own_words : (n i : ℕ) → n ≤ 8 → i < n → part (9 * i) 8 (widened_slots old n words) ≡ part (8 * i) 8 old
    unfolding widened_slots
    own_words zero i h g = absurd (omega arith)
    own_words (suc n) i h g = go (λ (l : i < n). own_words n i (omega arith) l) (eqb i n) refl
      where
        before : length (widened_slots old n words) ≡ word_count current_rules
        before = widened_length n words (omega arith) all

        own : length (part (8 * n) 8 old) ≡ 8
        own = eight n (omega arith)

        go : (i < n → part (9 * i) 8 (widened_slots old n words) ≡ part (8 * i) 8 old) → (t : Bool) → eqb i n ≡ t
            → part (9 * i) 8 (put (9 * n) (part (8 * n) 8 old) (widened_slots old n words)) ≡ part (8 * i) 8 old
        go earlier true e = rw (eqb-true i n e) (part_own (9 * n) 8 (part (8 * n) 8 old) (widened_slots old n words) own (omega (arith, before)))
        go earlier false e =
            let other = eqb-false i n e in
            part_other 9 i n (9 * n) (9 * i) 8 (part (8 * n) 8 old) (widened_slots old n words)
            (omega (arith, own, before)) other (omega arith) (omega (arith, own)) (omega arith) (omega arith)
            ∙ earlier (omega arith)

    -- and the word of f stays as it was. After the words of its own slot it is told apart by blocks that end where these do
    free_word : (n i : ℕ) → n ≤ 8 → i < 8 → part (9 * i + 8) 1 (widened_slots old n words) ≡ part (9 * i + 8) 1 words
    unfolding widened_slots
    free_word zero i h g = refl
    free_word (suc n) i h g = go (eqb i n) refl ∙ free_word n i (omega arith) g
      where
        before : length (widened_slots old n words) ≡ word_count current_rules
        before = widened_length n words (omega arith) all

        own : length (part (8 * n) 8 old) ≡ 8
        own = eight n (omega arith)

        go : (t : Bool) → eqb i n ≡ t
            → part (9 * i + 8) 1 (put (9 * n) (part (8 * n) 8 old) (widened_slots old n words)) ≡ part (9 * i + 8) 1 (widened_slots old n words)
        go true e =
            let same = eqb-true i n e in
            part_other (9 * n + 8) 1 0 (9 * n) (9 * i + 8) 1 (part (8 * n) 8 old) (widened_slots old n words)
            (omega (arith, own, before)) (λ x. omega arith) (omega arith) (omega (arith, own)) (omega (arith, same)) (omega (arith, same))
        go false e =
            let other = eqb-false i n e in
            part_other 9 i n (9 * n) (9 * i + 8) 1 (part (8 * n) 8 old) (widened_slots old n words)
            (omega (arith, own, before)) other (omega arith) (omega (arith, own)) (omega arith) (omega arith)

  -- ---- word by word
  abbrev none : List ℕ
  none = replicate (word_count current_rules) 0

  abbrev slots : List ℕ
  slots = widened_slots old 8 none

  none_long : length none ≡ word_count current_rules
  none_long = length-replicate {A = ℕ} (word_count current_rules) 0

  slots_long : length slots ≡ word_count current_rules
  slots_long = widened_length 8 none (omega arith) none_long

  pub widened_long : length (widened old) ≡ word_count current_rules
  widened_long = let t = three in let s = slots_long in length_put 72 (part 64 3 old) slots (omega (arith, t, s)) ∙ s

  -- the last three words are put behind the slots
  slot_part : (a n i : ℕ) → i < 8 → 9 * i ≤ a → a + n ≤ 9 * (i + 1) → part a n (widened old) ≡ part a n slots
  slot_part a n i h l u =
      let t = three in
      let s = slots_long in
      part_other 9 i 8 72 a n (part 64 3 old) slots (omega (arith, t, s)) (λ e. omega arith) (omega arith) (omega (arith, t)) l u

  same_word : (i f : ℕ) → i < 8 → f < 8 → word_at current_rules (widened old) i f ≡ word_at base_rules old i f
  same_word i f h g =
      sym (part_at (9 * i) 8 f (widened old) g)
      ∙ ap (λ (l : List ℕ). get_or l f 0) (slot_part (9 * i) 8 i h (omega arith) (omega arith) ∙ own_words none none_long 8 i (omega arith) h)
      ∙ part_at (8 * i) 8 f old g

  no_free : (i : ℕ) → i < 8 → word_at current_rules (widened old) i 8 ≡ 0
  no_free i h =
      let first : 9 * i + 8 ≡ 9 * i + 8 + 0 = omega arith in
      ap (λ (k : ℕ). get_or (widened old) k 0) first
      ∙ sym (part_at (9 * i + 8) 1 0 (widened old) (omega arith))
      ∙ ap (λ (l : List ℕ). get_or l 0 0) (slot_part (9 * i + 8) 1 i h (omega arith) (omega arith) ∙ free_word none none_long 8 i (omega arith) h)
      ∙ part_at (9 * i + 8) 1 0 none (omega arith)
      ∙ get_or-replicate {A = ℕ} (word_count current_rules) (9 * i + 8 + 0) 0 0 (omega arith)

  same_last : (f : ℕ) → f < 3 → word_at current_rules (widened old) 8 f ≡ word_at base_rules old 8 f
  same_last f g =
      let t = three in
      let s = slots_long in
      sym (part_at 72 3 f (widened old) g)
      ∙ ap (λ (l : List ℕ). get_or l f 0) (part_own 72 3 (part 64 3 old) slots t (omega (arith, s)))
      ∙ part_at 64 3 f old g

  -- ---- the fields
  -- as many words within their fields, word for word; a job number is the first of its slot in both
  module _ (n m : ℕ) (few : m ≤ 8) (same : (j : ℕ) → j < m → word_at current_rules (widened old) n j ≡ word_at base_rules old n j)
      (before : words_fit current_rules (widened old) (9 * n) ≡ words_fit base_rules old (8 * n)) where
    words_are_fit : (j : ℕ) → j ≤ m → words_fit current_rules (widened old) (9 * n + j) ≡ words_fit base_rules old (8 * n + j)
    words_are_fit zero g =
        let a : 9 * n + 0 ≡ 9 * n = omega arith in
        let b : 8 * n + 0 ≡ 8 * n = omega arith in
        ap (words_fit current_rules (widened old)) a ∙ before ∙ ap (words_fit base_rules old) (sym b)
    words_are_fit (suc j) g =
        let nine : j % 9 ≡ j = mod-eq_of_lt (omega arith) in
        let eight : j % 8 ≡ j = mod-eq_of_lt (omega arith) in
        subst (λ (k : ℕ). words_fit current_rules (widened old) (9 * n + k) ≡ words_fit base_rules old (8 * n + k)) (add-one j)
        (fit_next current_rules (widened old) n j
        ∙ ap₂ ◌&&◌ (words_are_fit j (omega arith)) (ap₂ (λ (k w : ℕ). cond (eqb k 0) true (ltb w (2 ^ 32))) (nine ∙ sym eight) (same j (omega arith)))
        ∙ sym (fit_next base_rules old n j))

  slots_fit : (n : ℕ) → n ≤ 8 → words_fit current_rules (widened old) (9 * n) ≡ words_fit base_rules old (8 * n)
  slots_fit zero h = every_none _ ∙ sym (every_none _)
  slots_fit (suc n) h =
      let nine : 9 * suc n ≡ 9 * n + 9 = omega arith in
      let eight : 8 * suc n ≡ 8 * n + 8 = omega arith in
      ap (words_fit current_rules (widened old)) nine
      ∙ fit_next current_rules (widened old) n 8
      ∙ ap (λ (w : ℕ). words_fit current_rules (widened old) (9 * n + 8) && ltb w (2 ^ 32)) (no_free n (omega arith))
      ∙ and-true (words_fit current_rules (widened old) (9 * n + 8))
      ∙ words_are_fit n 8 (omega arith) (λ j l. same_word n j (omega arith) l) (slots_fit n (omega arith)) 8 (omega arith)
      ∙ ap (words_fit base_rules old) (sym eight)

  -- THE WIDENED WORDS HOLD A RECORD WHERE THE OLD ONES DO
  pub widened_fits : fields_fit current_rules (widened old) ≡ fields_fit base_rules old
  unfolding fields_fit
  widened_fits =
      ap₂ ◌&&◌
      (eq-eqb (length (widened old)) (word_count current_rules) widened_long ∙ sym (eq-eqb (length old) (word_count base_rules) long))
      (words_are_fit 8 3 (omega arith) same_last (slots_fit 8 (omega arith)) 3 (omega arith))

  -- ---- the record
  slot_same : (i : ℕ) → i < 8 → slot_of current_rules (widened old) i ≡ slot_of base_rules old i
  unfolding slot_of
  slot_same i h =
      rw (
        same_word i 0 h (omega arith),
        same_word i 1 h (omega arith),
        same_word i 2 h (omega arith),
        same_word i 3 h (omega arith),
        same_word i 4 h (omega arith),
        same_word i 5 h (omega arith),
        same_word i 6 h (omega arith),
        same_word i 7 h (omega arith),
        no_free i h,
      )

  slots_same : slots_of current_rules (widened old) ≡ slots_of base_rules old
  slots_same = same_entries 8 (slot_of current_rules (widened old)) (slot_of base_rules old) slot_same

  -- AND THE SAME RECORD
  pub widened_service : service_of current_rules (widened old) ≡ service_of base_rules old
  unfolding service_of
  widened_service = rw (slots_same, same_last 0 (omega arith), same_last 1 (omega arith), same_last 2 (omega arith))
