-- Words within their fields, and slots written one by one. Assumes nothing.
use mathlib.Core.Path.{◌≡◌, refl, sym, ◌∙◌, ap, subst}
use mathlib.Core.Bool.{Bool, true, false, ◌&&◌, cond}
use mathlib.Core.List.{List, [], ◌∷◌}
use Prim.Native.Nat.{ℕ, zero, suc, ◌+◌, ◌*◌, ◌%◌, ◌^◌, ◌<◌, ◌≤◌}
use native.Mathlib.Nat.{add_assoc, le_trans, le-add_right, mul-add-mod_self_left, mod-eq_of_lt}
use native.Mathlib.Numerals.{add-one}
use native.Mathlib.Omega.{arith}
use borrow.Author.Tests.{eqb-true, ltb-true, ne_eqb}
use lib.Dec.{eqb, ltb}
use lib.ListN.{length, get_or}
use Rattle.std.proofs.Math.Bool.{and-true, and_assoc}
use Rattle.limits.proofs.Laws.{both_true}
use Rattle.machine.specs.declared.Slot.{Slot}
use Rattle.machine.specs.declared.Service.{Service}
use Rattle.machine.specs.Rules.{Rules, current_rules}
use Rattle.machine.proofs.Counts.{every_none, every_more, every_each}
use Rattle.machine.proofs.Parts.{length_put}
use Rattle.machine.specs.Slots.{slot_count, slot_at, every_place}
use Rattle.record_words.specs.Words.{word_count, slot_words, word_place, word_at, word_fits, words_fit, fields_fit, slot_fits, words_of_slot, with_slot, with_slots}

-- ---- words within their fields
-- one word more, by any rules
module _ (rules : Rules) (words : List ℕ) where
  pub fit_next : (n j : ℕ) → words_fit rules words (slot_words rules * n + (j + 1)) ≡ (words_fit rules words (slot_words rules * n + j) && cond (eqb (j % slot_words rules) 0) true (ltb (word_at rules words n j) (2 ^ 32)))
  fit_next n j =
      ap (words_fit rules words) (sym (add_assoc (slot_words rules * n) j 1))
      ∙ every_more (λ i. word_fits rules i (get_or words i 0)) (slot_words rules * n + j)
      ∙ rw (mul-add-mod_self_left (slot_words rules) n j)

-- the words of one slot more, and the last three, by the rules of the running calls
module _ (words : List ℕ) where
  pub fit_slot : (n : ℕ) → words_fit current_rules words (slot_words current_rules * (n + 1)) ≡ (words_fit current_rules words (slot_words current_rules * n) && slot_fits words n)
  fit_slot n =
      let next = fit_next current_rules words n in
      let e : 9 * (n + 1) ≡ 9 * n + 9 = omega arith in
      let z : 9 * n + 0 ≡ 9 * n = omega arith in
      rw (e, next 8, next 7, next 6, next 5, next 4, next 3, next 2, next 1, next 0, z) (simp (and-true, and_assoc))

  -- so the words of the first slots are within their fields where each slot's are
  pub fit_slots : (n : ℕ) → every_place (slot_fits words) n ≡ words_fit current_rules words (slot_words current_rules * n)
  fit_slots zero = every_none (slot_fits words) ∙ sym (every_none _)
  fit_slots (suc n) =
      let e : suc n ≡ n + 1 = omega arith in
      rw (e, every_more (slot_fits words) n, fit_slots n, fit_slot n)

  pub fit_all : words_fit current_rules words (word_count current_rules) ≡ (words_fit current_rules words (slot_words current_rules * slot_count) && ltb (word_at current_rules words slot_count 1) (2 ^ 32) && ltb (word_at current_rules words slot_count 2) (2 ^ 32))
  fit_all =
      let next = fit_next current_rules words slot_count in
      rw (next 2, next 1, next 0, and-true)

-- what words that hold a record are, by any rules
module _ (rules : Rules) (words : List ℕ) (fit : fields_fit rules words ≡ true) where
  pub fit_length : length words ≡ word_count rules
  unfolding fields_fit
  fit_length = eqb-true (length words) (word_count rules) (both_true (eqb (length words) (word_count rules)) (words_fit rules words (word_count rules)) fit).0

  pub fit_narrow : (place field : ℕ) → 1 ≤ field → field < slot_words rules → word_place rules place field < word_count rules → word_at rules words place field < 2 ^ 32
  unfolding fields_fit
  fit_narrow place field l h p =
      let w = every_each (λ i. word_fits rules i (get_or words i 0)) (word_count rules) (word_place rules place field) p (both_true (eqb (length words) (word_count rules)) (words_fit rules words (word_count rules)) fit).1 in
      let m : word_place rules place field % slot_words rules ≡ field = mul-add-mod_self_left (slot_words rules) place field ∙ mod-eq_of_lt h in
      let n : eqb (word_place rules place field % slot_words rules) 0 ≡ false =
      ne_eqb (word_place rules place field % slot_words rules) 0 (λ (e : word_place rules place field % slot_words rules ≡ 0). let z : field ≡ 0 = sym m ∙ e in omega arith) in
      ltb-true (word_at rules words place field) (2 ^ 32) (rw n at w)

-- ---- the slots written one by one, by any rules
-- a slot has as many words as the rules say
pub slot_length : (rules : Rules) (s : Slot) → length (words_of_slot rules s) ≡ slot_words rules
slot_length rules s = go rules.holds_choice
  where
    go : (c : Bool) → length (0 ∷ 0 ∷ 0 ∷ 0 ∷ 0 ∷ 0 ∷ 0 ∷ 0 ∷ cond c (s.free ∷ []) []) ≡ cond c 9 8
    go true = refl
    go false = refl

-- so the words of a slot end where the next begins
pub slot_end : (c : Bool) (n : ℕ) → cond c 9 8 * n + cond c 9 8 ≡ cond c 9 8 * (n + 1)
slot_end true n = omega arith
slot_end false n = omega arith

module _ (rules : Rules) (r : Service) where
  pub slots_written_none : (words : List ℕ) → with_slots rules r 0 words ≡ words
  unfolding with_slots
  slots_written_none words = refl

  pub slots_written_more : (n : ℕ) (words : List ℕ) → with_slots rules r (n + 1) words ≡ with_slot rules n (slot_at r n) (with_slots rules r n words)
  unfolding with_slots
  slots_written_more n words = rw (add-one n)

  pub slots_written_length : (n : ℕ) (words : List ℕ) → slot_words rules * n ≤ length words → length (with_slots rules r n words) ≡ length words
  unfolding with_slots
  slots_written_length zero words h = refl
  slots_written_length (suc n) words h =
      let long = slot_length rules (slot_at r n) in
      let end : slot_words rules * n + slot_words rules ≤ length words = subst (λ (k : ℕ). k ≤ length words) (ap (λ (k : ℕ). slot_words rules * k) (sym (add-one n)) ∙ sym (slot_end rules.holds_choice n)) h in
      let before : length (with_slots rules r n words) ≡ length words = slots_written_length n words (le_trans (le-add_right (slot_words rules * n) (slot_words rules)) end) in
      length_put (slot_words rules * n) (words_of_slot rules (slot_at r n)) (with_slots rules r n words) (rw (long, before) end) ∙ before
