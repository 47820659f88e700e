-- The layout of the words worked through by hand: a record whose 75 words all differ, read and written, the words after a tick, and
-- the bounds of each field; and the same record from before slots held f, in 67 words and in the 75 that these are widened to.
-- Definitions for `Cases`.
use mathlib.Core.Bool.{Bool, true, false}
use mathlib.Core.List.{List, [], ◌∷◌, ◌++◌, map}
use Prim.Native.Nat.{ℕ}
use lib.IntN.{pos, negsuc}
use lib.ListN.{replicate, set, take}
use Rattle.machine.specs.declared.Slot.{Slot}
use Rattle.machine.specs.declared.Service.{Service}
use Rattle.machine.specs.Rules.{base_rules, current_rules}
use Rattle.machine.proofs.Lines.{seat, seat_with, keeps}
use Rattle.record_words.specs.Words.{fields_fit, service_of, with_slot, with_service, with_turn, widened}

-- ---- the record, and its words in the order of the fields: number, xx, xy, yy, steps, steps left, width, height, f
-- `negsuc n` is −(n + 1). Negative numbers stand as 2^32 less their size: −999 as 4294967296 − 999, −1 as 4294967295, −2^31 as 2^31;
-- 2^31 − 1 is the largest positive one. A job number may be as large as 2^64 − 1
abbrev pub seat0 : Slot
seat0 = seat 10 (pos 11) (pos 12) (pos 13) 14 15 16 17

abbrev pub seat1 : Slot
seat1 = seat 20 (pos 21) (pos 22) (pos 23) 24 25 26 27

abbrev pub seat2 : Slot
seat2 = seat 30 (pos 31) (negsuc 998) (pos 33) 34 35 36 37

abbrev pub seat3 : Slot
seat3 = seat 18446744073709551615 (pos 41) (pos 42) (negsuc 0) 44 45 46 47

abbrev pub seat4 : Slot
seat4 = seat 50 (negsuc 2147483647) (pos 52) (pos 2147483647) 54 55 56 57

abbrev pub seat5 : Slot
seat5 = seat 60 (pos 61) (pos 62) (pos 63) 4294967295 65 66 67

abbrev pub seat6 : Slot
seat6 = seat 70 (pos 71) (pos 72) (pos 73) 74 75 76 77

abbrev pub seat7 : Slot
seat7 = seat 80 (pos 81) (pos 82) (pos 83) 84 85 86 4294967294

-- from before slots held f, and with an f in each
abbrev pub before : Service
before = keeps (seat0 ∷ seat1 ∷ seat2 ∷ seat3 ∷ seat4 ∷ seat5 ∷ seat6 ∷ seat7 ∷ []) 18446744073709551614 91 92

abbrev pub service : Service
service =
    keeps
    (seat_with 18 seat0
    ∷ seat_with 28 seat1
    ∷ seat_with 38 seat2
    ∷ seat_with 48 seat3
    ∷ seat_with 58 seat4
    ∷ seat_with 68 seat5
    ∷ seat_with 78 seat6
    ∷ seat_with 4294967293 seat7
    ∷ [])
    18446744073709551614
    91
    92

abbrev pub old_words : List ℕ
old_words =
    10 ∷ 11 ∷ 12 ∷ 13 ∷ 14 ∷ 15 ∷ 16 ∷ 17
    ∷ 20 ∷ 21 ∷ 22 ∷ 23 ∷ 24 ∷ 25 ∷ 26 ∷ 27
    ∷ 30 ∷ 31 ∷ 4294966297 ∷ 33 ∷ 34 ∷ 35 ∷ 36 ∷ 37
    ∷ 18446744073709551615 ∷ 41 ∷ 42 ∷ 4294967295 ∷ 44 ∷ 45 ∷ 46 ∷ 47
    ∷ 50 ∷ 2147483648 ∷ 52 ∷ 2147483647 ∷ 54 ∷ 55 ∷ 56 ∷ 57
    ∷ 60 ∷ 61 ∷ 62 ∷ 63 ∷ 4294967295 ∷ 65 ∷ 66 ∷ 67
    ∷ 70 ∷ 71 ∷ 72 ∷ 73 ∷ 74 ∷ 75 ∷ 76 ∷ 77
    ∷ 80 ∷ 81 ∷ 82 ∷ 83 ∷ 84 ∷ 85 ∷ 86 ∷ 4294967294
    ∷ 18446744073709551614 ∷ 91 ∷ 92
    ∷ []

abbrev pub first_two : List ℕ
first_two = 10 ∷ 11 ∷ 12 ∷ 13 ∷ 14 ∷ 15 ∷ 16 ∷ 17 ∷ 18 ∷ 20 ∷ 21 ∷ 22 ∷ 23 ∷ 24 ∷ 25 ∷ 26 ∷ 27 ∷ 28 ∷ []

abbrev pub from_four : List ℕ
from_four =
    50 ∷ 2147483648 ∷ 52 ∷ 2147483647 ∷ 54 ∷ 55 ∷ 56 ∷ 57 ∷ 58
    ∷ 60 ∷ 61 ∷ 62 ∷ 63 ∷ 4294967295 ∷ 65 ∷ 66 ∷ 67 ∷ 68
    ∷ 70 ∷ 71 ∷ 72 ∷ 73 ∷ 74 ∷ 75 ∷ 76 ∷ 77 ∷ 78
    ∷ 80 ∷ 81 ∷ 82 ∷ 83 ∷ 84 ∷ 85 ∷ 86 ∷ 4294967294 ∷ 4294967293
    ∷ []

abbrev pub words : List ℕ
words =
    first_two
    ++ (30 ∷ 31 ∷ 4294966297 ∷ 33 ∷ 34 ∷ 35 ∷ 36 ∷ 37 ∷ 38
    ∷ 18446744073709551615 ∷ 41 ∷ 42 ∷ 4294967295 ∷ 44 ∷ 45 ∷ 46 ∷ 47 ∷ 48
    ∷ from_four ++ (18446744073709551614 ∷ 91 ∷ 92 ∷ []))

-- ---- what stands in the table
pub record Layout : Type 0 where
  -- the record that the words hold, and the words with the record written over others
  pub read : Service
  pub written : List ℕ
  -- the words with seat 3 written, and after a tick that left seat 2 with 99 steps
  pub slot_written : List ℕ
  pub turned : List ℕ
  -- whether lists of words hold a record
  pub fit : List Bool
  -- by the rules from before slots held f: the record read and written, and whether lists of words hold one
  pub old_read : Service
  pub old_written : List ℕ
  pub old_fit : List Bool
  -- the old words widened, and the record that they hold then
  pub wide : List ℕ
  pub wide_read : Service

abbrev pub table : Layout
table =
    record {
      read = service;
      written = words;
      slot_written =
          first_two
          ++ (30 ∷ 31 ∷ 4294966297 ∷ 33 ∷ 34 ∷ 35 ∷ 36 ∷ 37 ∷ 38
          ∷ 1 ∷ 4294967294 ∷ 3 ∷ 4294967292 ∷ 5 ∷ 6 ∷ 7 ∷ 8 ∷ 9
          ∷ from_four ++ (18446744073709551614 ∷ 91 ∷ 92 ∷ []));
      turned =
          first_two
          ++ (30 ∷ 31 ∷ 4294966297 ∷ 33 ∷ 34 ∷ 99 ∷ 36 ∷ 37 ∷ 38
          ∷ 18446744073709551615 ∷ 41 ∷ 42 ∷ 4294967295 ∷ 44 ∷ 45 ∷ 46 ∷ 47 ∷ 48
          ∷ from_four ++ (18446744073709551614 ∷ 91 ∷ 2 ∷ []));
      fit =
          -- the words above; 74, 76 and none of them; the old words
          true ∷ false ∷ false ∷ false ∷ false
          -- 2^32 in each field of seat 6: only its number may be so large
          ∷ true ∷ false ∷ false ∷ false ∷ false ∷ false ∷ false ∷ false ∷ false
          -- 2^32 − 1 in the same fields
          ∷ true ∷ true ∷ true ∷ true ∷ true ∷ true ∷ true ∷ true ∷ true
          -- 2^32 in the last three words, of which the first is a job number, and 2^32 − 1 there; 2^32 as the first xx, the first f and the
          -- last f
          ∷ true ∷ false ∷ false ∷ true ∷ true ∷ true ∷ false ∷ false ∷ false
          ∷ [];
      old_read = before;
      old_written = old_words;
      old_fit =
          -- the old words; 66, 68 and none of them; the words of today
          true ∷ false ∷ false ∷ false ∷ false
          -- 2^32 in each field of seat 1, of which the first is its number, and in the last three words
          ∷ true ∷ false ∷ false ∷ false ∷ false ∷ false ∷ false ∷ false
          ∷ true ∷ false ∷ false
          ∷ [];
      wide =
          10 ∷ 11 ∷ 12 ∷ 13 ∷ 14 ∷ 15 ∷ 16 ∷ 17 ∷ 0
          ∷ 20 ∷ 21 ∷ 22 ∷ 23 ∷ 24 ∷ 25 ∷ 26 ∷ 27 ∷ 0
          ∷ 30 ∷ 31 ∷ 4294966297 ∷ 33 ∷ 34 ∷ 35 ∷ 36 ∷ 37 ∷ 0
          ∷ 18446744073709551615 ∷ 41 ∷ 42 ∷ 4294967295 ∷ 44 ∷ 45 ∷ 46 ∷ 47 ∷ 0
          ∷ 50 ∷ 2147483648 ∷ 52 ∷ 2147483647 ∷ 54 ∷ 55 ∷ 56 ∷ 57 ∷ 0
          ∷ 60 ∷ 61 ∷ 62 ∷ 63 ∷ 4294967295 ∷ 65 ∷ 66 ∷ 67 ∷ 0
          ∷ 70 ∷ 71 ∷ 72 ∷ 73 ∷ 74 ∷ 75 ∷ 76 ∷ 77 ∷ 0
          ∷ 80 ∷ 81 ∷ 82 ∷ 83 ∷ 84 ∷ 85 ∷ 86 ∷ 4294967294 ∷ 0
          ∷ 18446744073709551614 ∷ 91 ∷ 92
          ∷ [];
      wide_read = before;
    }

-- ---- the same by the definitions
-- the words with one replaced
abbrev pub replaced : ℕ → ℕ → List ℕ
replaced word place = set words place word

abbrev pub old_replaced : ℕ → ℕ → List ℕ
old_replaced word place = set old_words place word

abbrev pub lists : List (List ℕ)
lists =
    words ∷ take 74 words ∷ (words ++ (0 ∷ [])) ∷ [] ∷ old_words
    ∷ map (replaced 4294967296) (54 ∷ 55 ∷ 56 ∷ 57 ∷ 58 ∷ 59 ∷ 60 ∷ 61 ∷ 62 ∷ [])
    ++ (map (replaced 4294967295) (54 ∷ 55 ∷ 56 ∷ 57 ∷ 58 ∷ 59 ∷ 60 ∷ 61 ∷ 62 ∷ [])
    ++ (map (replaced 4294967296) (72 ∷ 73 ∷ 74 ∷ [])
    ++ (map (replaced 4294967295) (72 ∷ 73 ∷ 74 ∷ [])
    ++ map (replaced 4294967296) (1 ∷ 8 ∷ 71 ∷ []))))

abbrev pub old_lists : List (List ℕ)
old_lists =
    old_words ∷ take 66 old_words ∷ (old_words ++ (0 ∷ [])) ∷ [] ∷ words
    ∷ map (old_replaced 4294967296) (8 ∷ 9 ∷ 10 ∷ 11 ∷ 12 ∷ 13 ∷ 14 ∷ 15 ∷ 64 ∷ 65 ∷ 66 ∷ [])

abbrev pub computed : Layout
computed =
    record {
      read = service_of current_rules words;
      written = with_service current_rules service (replicate 75 5);
      slot_written = with_slot current_rules 3 (seat_with 9 (seat 1 (negsuc 1) (pos 3) (negsuc 3) 5 6 7 8)) words;
      turned = with_turn current_rules 2 99 words;
      fit = map (fields_fit current_rules) lists;
      old_read = service_of base_rules old_words;
      old_written = with_service base_rules before (replicate 67 5);
      old_fit = map (fields_fit base_rules) old_lists;
      wide = widened old_words;
      wide_read = service_of current_rules (widened old_words);
    }
