-- What is written is read back, by any rules: the words of a record are words of a record, and that record is the one that was written. So a
-- list of calls through words is a list of calls of the state machine. Assumes nothing.
use mathlib.Core.Path.{◌≡◌, refl, sym, ◌∙◌, ap, subst}
use mathlib.Core.Bool.{Bool, true, false, cond}
use mathlib.Core.List.{List, [], ◌∷◌}
use Prim.Native.Nat.{ℕ, zero, suc, ◌+◌, ◌*◌, ◌/◌, ◌%◌, ◌^◌, ◌<◌, ◌≤◌}
use native.Mathlib.Nat.{le_refl, mul-add-mod_self_left, div-add-mod, mod-lt, zero-mod}
use native.Mathlib.Omega.{arith}
use borrow.Author.Tests.{eqb-true, eqb-false, ltb-true, ltb-false, lt-ltb, eq-eqb}
use lib.Dec.{eqb, ltb}
use lib.ListN.{length, get_or}
use lib.Seq.{get_or-take, get_or-drop}
use mir.Syntax.{w32}
use mir.Val.{SFits, of_z}
use mir.ValLaws.{of_z_fits, to_z-of_z}
use Rattle.averaging.proofs.Images.{same_entries, own_entries}
use Rattle.machine.proofs.Counts.{every_made}
use Rattle.machine.proofs.Parts.{part_own, part_other, length_put}
use Rattle.machine.specs.declared.Slot.{Slot}
use Rattle.machine.specs.declared.Service.{Service}
use Rattle.machine.specs.Rules.{Rules}
use Rattle.machine.specs.Slots.{slot_at, empty_slot}
use Rattle.machine.specs.Store.{part, put}
use Rattle.record_words.specs.Words.{word_count, slot_words, word_at, word_fits, fields_fit, slot_of, slots_of, service_of, words_of_slot, with_slots, with_service}
use Rattle.record_words.proofs.Laws.{slot_length, slot_end, slots_written_length}

-- ---- places of words, of nine words a slot and of eight
below : (c : Bool) (n m : ℕ) → n ≤ m → cond c 9 8 * n ≤ cond c 9 8 * m + 3
below true n m h = omega arith
below false n m h = omega arith

slot_below : (c : Bool) (n m : ℕ) → n < m → cond c 9 8 * n + cond c 9 8 ≤ cond c 9 8 * m + 3
slot_below true n m h = omega arith
slot_below false n m h = omega arith

three_below : (c : Bool) (m : ℕ) → cond c 9 8 * m + 3 ≤ cond c 9 8 * (m + 1)
three_below true m = omega arith
three_below false m = omega arith

some_words : (c : Bool) → 0 < cond c 9 8
some_words true = omega arith
some_words false = omega arith

early : (c : Bool) (f : ℕ) → f < 8 → f < cond c 9 8
early true f h = omega arith
early false f h = omega arith

-- a word behind the slots is one of the last three
behind : (c : Bool) (i m f : ℕ) → f < cond c 9 8 → cond c 9 8 * i + f < cond c 9 8 * m + 3 → m ≤ i → (i ≡ m) × (f < 3)
behind true i m f h b l = (omega arith, omega arith)
behind false i m f h b l = (omega arith, omega arith)

-- an entry of a part
pub part_at : (a n f : ℕ) (l : List ℕ) → f < n → get_or (part a n l) f 0 ≡ get_or l (a + f) 0
part_at a n f l h = get_or-take n _ f 0 h ∙ get_or-drop a l f 0

module _ (rules : Rules) (r : Service) (words : List ℕ) (long : length words ≡ word_count rules) where
  room : (n : ℕ) → n ≤ rules.slot_count → length (with_slots rules r n words) ≡ word_count rules
  room n h = slots_written_length rules r n words (subst (λ (k : ℕ). slot_words rules * n ≤ k) (sym long) (below rules.holds_choice n rules.slot_count h)) ∙ long

  -- the words of a slot fit where they are written
  fits_in : (n : ℕ) (l : List ℕ) → n < rules.slot_count → length l ≡ word_count rules → slot_words rules * n + slot_words rules ≤ length l
  fits_in n l h e = subst (λ (k : ℕ). slot_words rules * n + slot_words rules ≤ k) (sym e) (slot_below rules.holds_choice n rules.slot_count h)

  -- and so do the last three
  three_in : (l : List ℕ) → length l ≡ word_count rules → slot_words rules * rules.slot_count + 3 ≤ length l
  three_in l e = subst (λ (k : ℕ). slot_words rules * rules.slot_count + 3 ≤ k) (sym e) (le_refl (word_count rules))

  -- the words of a slot that was written stand at its place
  own : (n i : ℕ) → n ≤ rules.slot_count → i < n → part (slot_words rules * i) (slot_words rules) (with_slots rules r n words) ≡ words_of_slot rules (slot_at r i)
  unfolding with_slots
  own zero i h g = absurd (omega arith)
  own (suc n) i h g = go (λ (l : i < n). own n i (omega arith) l) (eqb i n) refl
    where
      before : length (with_slots rules r n words) ≡ word_count rules
      before = room n (omega arith)

      as_many : length (words_of_slot rules (slot_at r n)) ≡ slot_words rules
      as_many = slot_length rules (slot_at r n)

      enough : slot_words rules * n + slot_words rules ≤ length (with_slots rules r n words)
      enough = fits_in n (with_slots rules r n words) (omega arith) before

      ends : (k : ℕ) → slot_words rules * k + slot_words rules ≤ slot_words rules * (k + 1)
      ends k = subst (λ (e : ℕ). slot_words rules * k + slot_words rules ≤ e) (slot_end rules.holds_choice k) (le_refl (slot_words rules * k + slot_words rules))

      go : (i < n → part (slot_words rules * i) (slot_words rules) (with_slots rules r n words) ≡ words_of_slot rules (slot_at r i)) → (t : Bool) → eqb i n ≡ t
          → part (slot_words rules * i) (slot_words rules) (put (slot_words rules * n) (words_of_slot rules (slot_at r n)) (with_slots rules r n words)) ≡ words_of_slot rules (slot_at r i)
      go earlier true e =
          rw (eqb-true i n e) (part_own (slot_words rules * n) (slot_words rules) (words_of_slot rules (slot_at r n)) (with_slots rules r n words) as_many enough)
      go earlier false e =
          let other = eqb-false i n e in
          part_other (slot_words rules) i n (slot_words rules * n) (slot_words rules * i) (slot_words rules) (words_of_slot rules (slot_at r n)) (with_slots rules r n words)
          (subst (λ (k : ℕ). slot_words rules * n + k ≤ length (with_slots rules r n words)) (sym as_many) enough)
          other
          (le_refl (slot_words rules * n))
          (subst (λ (k : ℕ). slot_words rules * n + k ≤ slot_words rules * (n + 1)) (sym as_many) (ends n))
          (le_refl (slot_words rules * i))
          (ends i)
          ∙ earlier (omega arith)

  slot_words_lem : (i : ℕ) → i < rules.slot_count → part (slot_words rules * i) (slot_words rules) (with_service rules r words) ≡ words_of_slot rules (slot_at r i)
  slot_words_lem i h =
      let before = room rules.slot_count (le_refl rules.slot_count) in
      part_other (slot_words rules) i rules.slot_count (slot_words rules * rules.slot_count) (slot_words rules * i) (slot_words rules) (r.last ∷ r.filled ∷ r.served ∷ []) (with_slots rules r rules.slot_count words)
      (three_in (with_slots rules r rules.slot_count words) before)
      (λ e. omega arith)
      (le_refl (slot_words rules * rules.slot_count))
      (three_below rules.holds_choice rules.slot_count)
      (le_refl (slot_words rules * i))
      (subst (λ (e : ℕ). slot_words rules * i + slot_words rules ≤ e) (slot_end rules.holds_choice i) (le_refl (slot_words rules * i + slot_words rules)))
      ∙ own rules.slot_count i (le_refl rules.slot_count) h

  last_words : part (slot_words rules * rules.slot_count) 3 (with_service rules r words) ≡ r.last ∷ r.filled ∷ r.served ∷ []
  last_words =
      part_own (slot_words rules * rules.slot_count) 3 (r.last ∷ r.filled ∷ r.served ∷ []) (with_slots rules r rules.slot_count words) refl
      (three_in (with_slots rules r rules.slot_count words) (room rules.slot_count (le_refl rules.slot_count)))

  -- a word of a slot, and one of the last three
  pub slot_word : (i f : ℕ) → i < rules.slot_count → f < slot_words rules → word_at rules (with_service rules r words) i f ≡ get_or (words_of_slot rules (slot_at r i)) f 0
  slot_word i f h g = sym (part_at (slot_words rules * i) (slot_words rules) f (with_service rules r words) g) ∙ ap (λ (l : List ℕ). get_or l f 0) (slot_words_lem i h)

  pub last_word : (f : ℕ) → f < 3 → word_at rules (with_service rules r words) rules.slot_count f ≡ get_or (r.last ∷ r.filled ∷ r.served ∷ []) f 0
  last_word f g = sym (part_at (slot_words rules * rules.slot_count) 3 f (with_service rules r words) g) ∙ ap (λ (l : List ℕ). get_or l f 0) last_words

  pub long_after : length (with_service rules r words) ≡ word_count rules
  long_after =
      let before = room rules.slot_count (le_refl rules.slot_count) in
      length_put (slot_words rules * rules.slot_count) (r.last ∷ r.filled ∷ r.served ∷ []) (with_slots rules r rules.slot_count words) (three_in (with_slots rules r rules.slot_count words) before) ∙ before

-- numbers within the fields of a slot: what a record in the code always has. Without a choice there is no field for f
pub record SlotFits (rules : Rules) (s : Slot) : Type 0 where
  pub xx_fits : SFits w32 s.xx
  pub xy_fits : SFits w32 s.xy
  pub yy_fits : SFits w32 s.yy
  pub steps_fits : s.steps < 2 ^ 32
  pub left_fits : s.left < 2 ^ 32
  pub width_fits : s.width < 2 ^ 32
  pub height_fits : s.height < 2 ^ 32
  pub free_fits_lem : s.free < 2 ^ 32
  pub free_none : rules.holds_choice ≡ false → s.free ≡ 0

pub record Fits (rules : Rules) (r : Service) : Type 0 where
  pub as_many : length r.slots ≡ rules.slot_count
  pub slots_fit : (i : ℕ) → i < rules.slot_count → SlotFits rules (slot_at r i)
  pub filled_fits : r.filled < 2 ^ 32
  pub served_fits : r.served < 2 ^ 32

module _ (rules : Rules) (r : Service) (words : List ℕ) (long : length words ≡ word_count rules) (fits : Fits rules r) where
  free_back : (i : ℕ) → i < rules.slot_count → cond rules.holds_choice (word_at rules (with_service rules r words) i 8) 0 ≡ (slot_at r i).free
  free_back i h = go rules.holds_choice refl (λ (g : 8 < slot_words rules). slot_word rules r words long i 8 h g)
    where
      go : (c : Bool) → rules.holds_choice ≡ c
          → (8 < cond c 9 8 → word_at rules (with_service rules r words) i 8 ≡ get_or (cond c ((slot_at r i).free ∷ []) []) 0 0)
          → cond c (word_at rules (with_service rules r words) i 8) 0 ≡ (slot_at r i).free
      go true e word = word (omega arith)
      go false e word = sym ((fits.slots_fit i h).free_none e)

  slot_back : (i : ℕ) → i < rules.slot_count → slot_of rules (with_service rules r words) i ≡ slot_at r i
  unfolding slot_of
  slot_back i h =
      let s = slot_at r i in
      let f = fits.slots_fit i h in
      let word : (k : ℕ) → k < 8 → word_at rules (with_service rules r words) i k ≡ get_or (words_of_slot rules s) k 0 = λ k l. slot_word rules r words long i k h (early rules.holds_choice k l) in
      rw (
        free_back i h,
        word 0 (omega arith),
        word 1 (omega arith),
        word 2 (omega arith),
        word 3 (omega arith),
        word 4 (omega arith),
        word 5 (omega arith),
        word 6 (omega arith),
        word 7 (omega arith),
        to_z-of_z w32 s.xx f.xx_fits,
        to_z-of_z w32 s.xy f.xy_fits,
        to_z-of_z w32 s.yy f.yy_fits,
      )

  slots_back : slots_of rules (with_service rules r words) ≡ r.slots
  slots_back =
      same_entries rules.slot_count (slot_of rules (with_service rules r words)) (slot_at r) slot_back
      ∙ sym (own_entries rules.slot_count empty_slot r.slots fits.as_many)

  -- THE RECORD THAT WAS WRITTEN IS READ BACK
  pub read_back : service_of rules (with_service rules r words) ≡ r
  unfolding service_of
  read_back = rw (slots_back, last_word rules r words long 0 (omega arith), last_word rules r words long 1 (omega arith), last_word rules r words long 2 (omega arith))

-- ---- the words are words of a record
module _ (rules : Rules) where
  -- 32 bits are within every field
  narrow : (k word : ℕ) → word < 2 ^ 32 → word_fits rules k word ≡ true
  narrow k word h = go (eqb (k % slot_words rules) 0)
    where
      go : (t : Bool) → cond t true (ltb word (2 ^ 32)) ≡ true
      go true = refl
      go false = lt-ltb word (2 ^ 32) h

  -- and so is anything at a multiple of a slot's words
  wide_word : (i word : ℕ) → word_fits rules (slot_words rules * i + 0) word ≡ true
  wide_word i word = rw (mul-add-mod_self_left (slot_words rules) i 0 ∙ zero-mod (slot_words rules))

module _ (rules : Rules) (i : ℕ) (s : Slot) (f : SlotFits rules s) where
  free_word : (field : ℕ) → 8 ≤ field → field < slot_words rules → get_or (words_of_slot rules s) field 0 < 2 ^ 32
  free_word field l h = go rules.holds_choice h
    where
      go : (c : Bool) → field < cond c 9 8
          → get_or (s.number ∷ of_z w32 s.xx ∷ of_z w32 s.xy ∷ of_z w32 s.yy ∷ s.steps ∷ s.left ∷ s.width ∷ s.height ∷ cond c (s.free ∷ []) []) field 0 < 2 ^ 32
      go true g = let e : field ≡ 8 = omega arith in rw e f.free_fits_lem
      go false g = absurd (omega arith)

  field_fits : (field : ℕ) → field < slot_words rules → word_fits rules (slot_words rules * i + field) (get_or (words_of_slot rules s) field 0) ≡ true
  field_fits zero h = wide_word rules i s.number
  field_fits (suc zero) h = narrow rules (slot_words rules * i + 1) (of_z w32 s.xx) (of_z_fits w32 s.xx f.xx_fits).fits
  field_fits (suc (suc zero)) h = narrow rules (slot_words rules * i + 2) (of_z w32 s.xy) (of_z_fits w32 s.xy f.xy_fits).fits
  field_fits (suc (suc (suc zero))) h = narrow rules (slot_words rules * i + 3) (of_z w32 s.yy) (of_z_fits w32 s.yy f.yy_fits).fits
  field_fits (suc (suc (suc (suc zero)))) h = narrow rules (slot_words rules * i + 4) s.steps f.steps_fits
  field_fits (suc (suc (suc (suc (suc zero))))) h = narrow rules (slot_words rules * i + 5) s.left f.left_fits
  field_fits (suc (suc (suc (suc (suc (suc zero)))))) h = narrow rules (slot_words rules * i + 6) s.width f.width_fits
  field_fits (suc (suc (suc (suc (suc (suc (suc zero))))))) h = narrow rules (slot_words rules * i + 7) s.height f.height_fits
  field_fits (suc (suc (suc (suc (suc (suc (suc (suc n)))))))) h =
      narrow rules (slot_words rules * i + suc (suc (suc (suc (suc (suc (suc (suc n)))))))) (get_or (words_of_slot rules s) (suc (suc (suc (suc (suc (suc (suc (suc n)))))))) 0)
      (free_word (suc (suc (suc (suc (suc (suc (suc (suc n)))))))) (omega arith) h)

module _ (rules : Rules) (r : Service) (words : List ℕ) (long : length words ≡ word_count rules) (fits : Fits rules r) where
  last_fits : (field : ℕ) → field < 3 → word_fits rules (slot_words rules * rules.slot_count + field) (get_or (r.last ∷ r.filled ∷ r.served ∷ []) field 0) ≡ true
  last_fits zero h = wide_word rules rules.slot_count r.last
  last_fits (suc zero) h = narrow rules (slot_words rules * rules.slot_count + 1) r.filled fits.filled_fits
  last_fits (suc (suc zero)) h = narrow rules (slot_words rules * rules.slot_count + 2) r.served fits.served_fits
  last_fits (suc (suc (suc n))) h = absurd (omega arith)

  -- by the place of the word and its field
  placed : (i field : ℕ) → field < slot_words rules → slot_words rules * i + field < word_count rules
      → word_fits rules (slot_words rules * i + field) (word_at rules (with_service rules r words) i field) ≡ true
  placed i field h g = go (ltb i rules.slot_count) refl
    where
      go : (t : Bool) → ltb i rules.slot_count ≡ t → word_fits rules (slot_words rules * i + field) (word_at rules (with_service rules r words) i field) ≡ true
      go true e =
          let l = ltb-true i rules.slot_count e in
          ap (word_fits rules (slot_words rules * i + field)) (slot_word rules r words long i field l h)
          ∙ field_fits rules i (slot_at r i) (fits.slots_fit i l) field h
      go false e =
          let w = behind rules.holds_choice i rules.slot_count field h g (ltb-false i rules.slot_count e) in
          subst (λ (k : ℕ). word_fits rules (slot_words rules * k + field) (word_at rules (with_service rules r words) k field) ≡ true) (sym w.0)
          (ap (word_fits rules (slot_words rules * rules.slot_count + field)) (last_word rules r words long field w.1) ∙ last_fits field w.1)

  each : (k : ℕ) → k < word_count rules → word_fits rules k (get_or (with_service rules r words) k 0) ≡ true
  each k h =
      let field : k % slot_words rules < slot_words rules = mod-lt k (some_words rules.holds_choice) in
      let e : slot_words rules * (k / slot_words rules) + k % slot_words rules ≡ k = div-add-mod k (slot_words rules) in
      subst (λ (j : ℕ). word_fits rules j (get_or (with_service rules r words) j 0) ≡ true) e
      (placed (k / slot_words rules) (k % slot_words rules) field (subst (λ (j : ℕ). j < word_count rules) (sym e) h))

  -- WHAT IS WRITTEN HOLDS A RECORD
  pub written_fits : fields_fit rules (with_service rules r words) ≡ true
  unfolding fields_fit
  written_fits =
      rw (
        eq-eqb (length (with_service rules r words)) (word_count rules) (long_after rules r words long),
        every_made (λ i. word_fits rules i (get_or (with_service rules r words) i 0)) (word_count rules) each,
      )
