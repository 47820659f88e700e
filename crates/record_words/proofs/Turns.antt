-- Words that hold a record, after a tick of it: with the tick's record written whole they are the words with two of them
-- replaced, the steps left of the slot that was served and the slot last served. Assumes nothing.
use mathlib.Core.Path.{◌≡◌, refl, sym, ◌∙◌, ap, subst}
use mathlib.Core.Logic.{◌≢◌}
use mathlib.Core.Bool.{Bool, true, false}
use mathlib.Core.List.{List, [], ◌∷◌}
use Prim.Native.Nat.{ℕ, zero, suc, ◌+◌, ◌*◌, ◌/◌, ◌%◌, ◌<◌, ◌≤◌}
use native.Mathlib.Nat.{div-add-mod', mod-lt}
use native.Mathlib.Omega.{arith}
use borrow.Author.Tests.{eqb-true, eqb-false, ltb-true, ltb-false}
use lib.Dec.{eqb, ltb}
use lib.ListN.{length, get_or, set, length-set}
use lib.Seq.{get_or-set_same, get_or-set_other, ext_get_or}
use mir.Syntax.{w32}
use mir.Val.{to_z, of_z}
use mir.ValLaws.{of_z-to_z}
use Rattle.averaging.proofs.Images.{length_entries, entry}
use Rattle.machine.specs.declared.Slot.{Slot}
use Rattle.machine.specs.declared.Service.{Service}
use Rattle.machine.specs.Rules.{current_rules}
use Rattle.machine.specs.Slots.{slot_count, slot_at, empty_slot}
use Rattle.machine.specs.Calls.{with_left, turned_at}
use Rattle.record_words.specs.Words.{word_count, slot_words, word_place, word_at, fields_fit, slot_of, slots_of, service_of, words_of_slot, with_service, with_turn}
use Rattle.record_words.proofs.Laws.{fit_length, fit_narrow}
use Rattle.record_words.proofs.ReadBack.{slot_word, last_word, long_after}

module _ (words : List ℕ) (fit : fields_fit current_rules words ≡ true) where
  -- a signed number that was read has the bits of its word
  signed_back : (place field : ℕ) → 1 ≤ field → field < slot_words current_rules → word_place current_rules place field < word_count current_rules
      → of_z w32 (to_z w32 (word_at current_rules words place field)) ≡ word_at current_rules words place field
  signed_back place field l h p = of_z-to_z w32 (word_at current_rules words place field) (record { fits = fit_narrow current_rules words fit place field l h p })

  -- a slot that was read has the words that it was read from
  own_word : (j : ℕ) → j < slot_count → (f : ℕ) → f < slot_words current_rules → get_or (words_of_slot current_rules (slot_of current_rules words j)) f 0 ≡ word_at current_rules words j f
  unfolding slot_of
  own_word j h zero g = refl
  own_word j h (suc zero) g = signed_back j 1 (omega arith) (omega arith) (omega arith)
  own_word j h (suc (suc zero)) g = signed_back j 2 (omega arith) (omega arith) (omega arith)
  own_word j h (suc (suc (suc zero))) g = signed_back j 3 (omega arith) (omega arith) (omega arith)
  own_word j h (suc (suc (suc (suc zero)))) g = refl
  own_word j h (suc (suc (suc (suc (suc zero))))) g = refl
  own_word j h (suc (suc (suc (suc (suc (suc zero)))))) g = refl
  own_word j h (suc (suc (suc (suc (suc (suc (suc zero))))))) g = refl
  own_word j h (suc (suc (suc (suc (suc (suc (suc (suc zero)))))))) g = refl
  own_word j h (suc (suc (suc (suc (suc (suc (suc (suc (suc n))))))))) g = absurd (omega arith)

  read_slot : (j : ℕ) → j < slot_count → get_or (slots_of current_rules words) j empty_slot ≡ slot_of current_rules words j
  read_slot j h = entry slot_count (slot_of current_rules words) empty_slot j h

  module _ (i left : ℕ) (h : i < slot_count) where
    long : length words ≡ word_count current_rules
    long = fit_length current_rules words fit

    abbrev after : Service
    after =
        record {
          slots = set (slots_of current_rules words) i (with_left (slot_of current_rules words i) left);
          last = word_at current_rules words slot_count 0;
          filled = word_at current_rules words slot_count 1;
          served = i;
        }

    -- the words with the two replaced
    left_word : get_or (with_turn current_rules i left words) (word_place current_rules i 5) 0 ≡ left
    left_word =
        get_or-set_other (set words (word_place current_rules i 5) left) (word_place current_rules slot_count 2) (word_place current_rules i 5) i 0 (λ e. omega arith)
        ∙ get_or-set_same words (word_place current_rules i 5) left 0 (omega (arith, long))

    served_word : get_or (with_turn current_rules i left words) (word_place current_rules slot_count 2) 0 ≡ i
    served_word =
        let l : length (set words (word_place current_rules i 5) left) ≡ word_count current_rules = length-set words (word_place current_rules i 5) left ∙ long in
        get_or-set_same (set words (word_place current_rules i 5) left) (word_place current_rules slot_count 2) i 0 (omega (arith, l))

    other_word : (k : ℕ) → k ≢ word_place current_rules i 5 → k ≢ word_place current_rules slot_count 2 → get_or (with_turn current_rules i left words) k 0 ≡ get_or words k 0
    other_word k a b =
        get_or-set_other (set words (word_place current_rules i 5) left) (word_place current_rules slot_count 2) k i 0 b
        ∙ get_or-set_other words (word_place current_rules i 5) k left 0 a

    -- those of the slot that was served
    served_slot : (f : ℕ) → f < slot_words current_rules → get_or (words_of_slot current_rules (with_left (slot_of current_rules words i) left)) f 0 ≡ word_at current_rules (with_turn current_rules i left words) i f
    served_slot f g = go (eqb f 5) refl
      where
        go : (t : Bool) → eqb f 5 ≡ t → get_or (words_of_slot current_rules (with_left (slot_of current_rules words i) left)) f 0 ≡ word_at current_rules (with_turn current_rules i left words) i f
        go true e = rw (eqb-true f 5 e) (sym left_word)
        go false e =
            let other = eqb-false f 5 e in
            get_or-set_other (words_of_slot current_rules (slot_of current_rules words i)) 5 f left 0 other
            ∙ own_word i h f g
            ∙ sym (other_word (word_place current_rules i f) (λ x. other (omega arith)) (λ x. omega arith))

    -- and of every slot
    every_slot_lem : (j f : ℕ) → j < slot_count → f < slot_words current_rules → get_or (words_of_slot current_rules (slot_at after j)) f 0 ≡ word_at current_rules (with_turn current_rules i left words) j f
    every_slot_lem j f l g = go (eqb j i) refl
      where
        go : (t : Bool) → eqb j i ≡ t → get_or (words_of_slot current_rules (slot_at after j)) f 0 ≡ word_at current_rules (with_turn current_rules i left words) j f
        go true e =
            let same = eqb-true j i e in
            ap (λ (s : Slot). get_or (words_of_slot current_rules s) f 0) (ap (slot_at after) same ∙ get_or-set_same (slots_of current_rules words) i (with_left (slot_of current_rules words i) left) empty_slot (rw (length_entries slot_count (slot_of current_rules words)) h))
            ∙ served_slot f g
            ∙ ap (λ (n : ℕ). word_at current_rules (with_turn current_rules i left words) n f) (sym same)
        go false e =
            let other = eqb-false j i e in
            ap (λ (s : Slot). get_or (words_of_slot current_rules s) f 0) (get_or-set_other (slots_of current_rules words) i j (with_left (slot_of current_rules words i) left) empty_slot other ∙ read_slot j l)
            ∙ own_word j l f g
            ∙ sym (other_word (word_place current_rules j f) (λ x. other (omega arith)) (λ x. omega arith))

    last_three : (f : ℕ) → f < 3 → get_or (word_at current_rules words slot_count 0 ∷ word_at current_rules words slot_count 1 ∷ i ∷ []) f 0 ≡ word_at current_rules (with_turn current_rules i left words) slot_count f
    last_three zero g = sym (other_word (word_place current_rules slot_count 0) (λ x. omega arith) (λ x. omega arith))
    last_three (suc zero) g = sym (other_word (word_place current_rules slot_count 1) (λ x. omega arith) (λ x. omega arith))
    last_three (suc (suc zero)) g = sym served_word
    last_three (suc (suc (suc n))) g = absurd (omega arith)

    placed : (j f : ℕ) → f < slot_words current_rules → slot_words current_rules * j + f < word_count current_rules → word_at current_rules (with_service current_rules after words) j f ≡ word_at current_rules (with_turn current_rules i left words) j f
    placed j f g below = go (ltb j slot_count) refl
      where
        go : (t : Bool) → ltb j slot_count ≡ t → word_at current_rules (with_service current_rules after words) j f ≡ word_at current_rules (with_turn current_rules i left words) j f
        go true e = let l = ltb-true j slot_count e in slot_word current_rules after words long j f l g ∙ every_slot_lem j f l g
        go false e =
            let l = ltb-false j slot_count e in
            let last : j ≡ slot_count = omega arith in
            let three : f < 3 = omega arith in
            rw last (last_word current_rules after words long f three ∙ last_three f three)

    each : (k : ℕ) → k < word_count current_rules → get_or (with_service current_rules after words) k 0 ≡ get_or (with_turn current_rules i left words) k 0
    each k below =
        let field : k % slot_words current_rules < slot_words current_rules = mod-lt k (omega arith) in
        let e : slot_words current_rules * (k / slot_words current_rules) + k % slot_words current_rules ≡ k = omega (arith, div-add-mod' k (slot_words current_rules)) in
        subst (λ (n : ℕ). get_or (with_service current_rules after words) n 0 ≡ get_or (with_turn current_rules i left words) n 0) e (placed (k / slot_words current_rules) (k % slot_words current_rules) field (omega arith))

    two_words : with_service current_rules after words ≡ with_turn current_rules i left words
    two_words =
        let whole = long_after current_rules after words long in
        let kept : length (with_turn current_rules i left words) ≡ word_count current_rules = length-set (set words (word_place current_rules i 5) left) (word_place current_rules slot_count 2) i ∙ length-set words (word_place current_rules i 5) left ∙ long in
        ext_get_or 0 (with_service current_rules after words) (with_turn current_rules i left words) (whole ∙ sym kept) (λ k l. each k (omega (arith, l, whole)))

    -- A TICK'S RECORD IS WRITTEN BY TWO WORDS
    pub turn_written : (r : Service) → r ≡ service_of current_rules words → with_service current_rules (turned_at r i left) words ≡ with_turn current_rules i left words
    unfolding service_of
    turn_written r held =
        ap (λ (x : Service). with_service current_rules (turned_at x i left) words) held
        ∙ ap (λ (s : Slot). with_service current_rules (record { slots = set (slots_of current_rules words) i (with_left s left); last = word_at current_rules words slot_count 0; filled = word_at current_rules words slot_count 1; served = i }) words) (read_slot i h)
        ∙ two_words
