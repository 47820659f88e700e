-- The service record as words of 64 bits: for each of the slots its number, xx, xy, yy, steps, steps left, width and height, and f by rules
-- with a choice; then the last number given, the slot last filled and the slot last served. So 75 words by the rules that the calls of
-- this library run by, and 67 by the base rules, as the change-over takes them. Each word but the job numbers, which stand at the multiples of
-- a slot's words, and the last number holds 32 bits; a signed number stands as its two's complement in 32 bits. Definitions only.
use Rattle.std.specs.Prelude.{Bool, true, ◌&&◌, cond, List, [], ◌∷◌, ℕ, zero, suc, ◌+◌, ◌*◌, ◌%◌, ◌^◌, eqb, ltb, length, get_or, set, replicate}
use Rattle.std.specs.Int.{w32}
use Rattle.std.proofs.Common.{to_z, of_z}
use Rattle.image.specs.Image.{entries}
use Rattle.machine.specs.declared.Slot.{Slot}
use Rattle.machine.specs.declared.Service.{Service}
use Rattle.machine.specs.Rules.{Rules, base_rules, current_rules}
use Rattle.machine.specs.Slots.{slot_at, every_place}
use Rattle.machine.specs.Store.{part, put}

-- the words of one slot
abbrev pub slot_words : Rules → ℕ
slot_words rules = cond rules.holds_choice 9 8

-- those of the slots, and three
abbrev pub word_count : Rules → ℕ
word_count rules = slot_words rules * rules.slot_count + 3

-- whether a word is within its field
abbrev pub word_fits : Rules → ℕ → ℕ → Bool
word_fits rules i word = cond (eqb (i % slot_words rules) 0) true (ltb word (2 ^ 32))

-- whether each of the first n is
abbrev pub words_fit : Rules → List ℕ → ℕ → Bool
words_fit rules words n = every_place (λ i. word_fits rules i (get_or words i 0)) n

-- words that are a record, in order or not
unfoldable pub fields_fit : Rules → List ℕ → Bool
fields_fit rules words = eqb (length words) (word_count rules) && words_fit rules words (word_count rules)

-- the place of a field of a slot, and of the three last words, which follow as those of one slot more would
abbrev pub word_place : Rules → ℕ → ℕ → ℕ
word_place rules place field = slot_words rules * place + field

abbrev pub word_at : Rules → List ℕ → ℕ → ℕ → ℕ
word_at rules words place field = get_or words (word_place rules place field) 0

-- whether the words of a slot are within their fields, as the calls of this library have them: all but the job number have 32 bits
abbrev pub slot_fits : List ℕ → ℕ → Bool
slot_fits words place =
    ltb (word_at current_rules words place 1) (2 ^ 32)
    && (ltb (word_at current_rules words place 2) (2 ^ 32)
    && (ltb (word_at current_rules words place 3) (2 ^ 32)
    && (ltb (word_at current_rules words place 4) (2 ^ 32)
    && (ltb (word_at current_rules words place 5) (2 ^ 32)
    && (ltb (word_at current_rules words place 6) (2 ^ 32)
    && (ltb (word_at current_rules words place 7) (2 ^ 32)
    && ltb (word_at current_rules words place 8) (2 ^ 32)))))))

unfoldable pub slot_of : Rules → List ℕ → ℕ → Slot
slot_of rules words place =
    record {
      number = word_at rules words place 0;
      xx = to_z w32 (word_at rules words place 1);
      xy = to_z w32 (word_at rules words place 2);
      yy = to_z w32 (word_at rules words place 3);
      steps = word_at rules words place 4;
      left = word_at rules words place 5;
      width = word_at rules words place 6;
      height = word_at rules words place 7;
      free = cond rules.holds_choice (word_at rules words place 8) 0;
    }

-- the slots that the words hold
abbrev pub slots_of : Rules → List ℕ → List Slot
slots_of rules words = entries rules.slot_count (slot_of rules words)

-- the record that the words hold
unfoldable pub service_of : Rules → List ℕ → Service
service_of rules words =
    record {
      slots = slots_of rules words;
      last = word_at rules words rules.slot_count 0;
      filled = word_at rules words rules.slot_count 1;
      served = word_at rules words rules.slot_count 2;
    }

-- the words of a slot, in order
abbrev pub words_of_slot : Rules → Slot → List ℕ
words_of_slot rules s =
    s.number
    ∷ of_z w32 s.xx
    ∷ of_z w32 s.xy
    ∷ of_z w32 s.yy
    ∷ s.steps
    ∷ s.left
    ∷ s.width
    ∷ s.height
    ∷ cond rules.holds_choice (s.free ∷ []) []

-- the words with those of a slot written at its place
abbrev pub with_slot : Rules → ℕ → Slot → List ℕ → List ℕ
with_slot rules place s words = put (slot_words rules * place) (words_of_slot rules s) words

-- with those of the first n slots written
unfoldable pub with_slots : Rules → Service → ℕ → List ℕ → List ℕ
with_slots rules r zero words = words
with_slots rules r (suc n) words = with_slot rules n (slot_at r n) (with_slots rules r n words)

-- with the whole record written
abbrev pub with_service : Rules → Service → List ℕ → List ℕ
with_service rules r words =
    put (slot_words rules * rules.slot_count) (r.last ∷ r.filled ∷ r.served ∷ []) (with_slots rules r rules.slot_count words)

-- with what a tick changes written: the steps left of the slot that was served, and the slot last served
abbrev pub with_turn : Rules → ℕ → ℕ → List ℕ → List ℕ
with_turn rules place left words = set (set words (word_place rules place 5) left) (word_place rules rules.slot_count 2) place

-- ---- the words of the base rules in the places of those of this library, each f 0: so the change-over reads them
unfoldable pub widened_slots : List ℕ → ℕ → List ℕ → List ℕ
widened_slots old zero words = words
widened_slots old (suc n) words = put (slot_words current_rules * n) (part (slot_words base_rules * n) 8 old) (widened_slots old n words)

abbrev pub widened : List ℕ → List ℕ
widened old =
    put (slot_words current_rules * 8) (part (slot_words base_rules * 8) 3 old) (widened_slots old 8 (replicate (word_count current_rules) 0))
