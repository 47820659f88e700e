-- Worked ticks, as one computed table: which slot is the one last served then, and what is left of two jobs; and worked change-overs of old records. Assumes nothing.
use mathlib.Core.Path.{◌≡◌, refl}
use mathlib.Core.List.{List, [], ◌∷◌, map}
use Prim.Native.Nat.{ℕ}
use lib.ListN.{replicate}
use lib.IntN.{ℤ, pos, negsuc}
use Rattle.limits.specs.declared.ErrorCode.TheVariants.{RecordOutOfOrder}
use Rattle.kernel.specs.Existence.{kernel_exists, free_fits}
use Rattle.machine.specs.declared.Slot.{Slot}
use Rattle.machine.specs.declared.Service.{Service}
use Rattle.machine.specs.declared.BaseSlot.{BaseSlot}
use Rattle.machine.specs.declared.BaseService.{BaseService}
use Rattle.machine.specs.Rules.{current_rules}
use Rattle.machine.specs.Slots.{slot_at, first_from, count_of, every_place}
use Rattle.machine.specs.Calls.{tick_of}
use Rattle.machine.specs.Order.{all_zero, filled_fine, slot_fine, in_order, usable}
use Rattle.machine.specs.Change.{change_of}
use Rattle.machine.specs.Answers.{answer_number, answer_values}
use Rattle.machine.proofs.Lines.{seat, seat_with, none, keeps}
use Rattle.std.specs.Prelude.{Ok, Err}

-- a job of three steps over one pixel, by the kernel that is its centre alone
abbrev pub job_with : ℕ → ℕ → Slot
job_with number left = seat number (pos 0) (pos 0) (pos 0) 3 left 1 1

-- job 5 in slot 2 and job 9 in slot 6, with so many steps left of each; slot 6 was filled last
abbrev pub two_jobs : ℕ → ℕ → ℕ → Service
two_jobs served left_of5 left_of9 =
    keeps (none ∷ none ∷ job_with 5 left_of5 ∷ none ∷ none ∷ none ∷ job_with 9 left_of9 ∷ none ∷ []) 9 6 served

-- what goes in: the slot last served, the steps left of jobs 5 and 9, the pixels of the store; and what comes out: the refusal's
-- number (0: none), the job's number (none: idle or refused), the slot last served then, and the steps left of jobs 5 and 9
pub record Row : Type 0 where
  pub served : ℕ
  pub left_of5 : ℕ
  pub left_of9 : ℕ
  pub pixels : ℕ
  pub refusal : ℕ
  pub job : List ℕ
  pub served_then : ℕ
  pub left_of5_then : ℕ
  pub left_of9_then : ℕ

abbrev pub row : ℕ → ℕ → ℕ → ℕ → ℕ → List ℕ → ℕ → ℕ → ℕ → Row
row served left_of5 left_of9 pixels refusal job served_then left_of5_then left_of9_then =
    record {
      served = served;
      left_of5 = left_of5;
      left_of9 = left_of9;
      pixels = pixels;
      refusal = refusal;
      job = job;
      served_then = served_then;
      left_of5_then = left_of5_then;
      left_of9_then = left_of9_then;
    }

-- by hand: from the slot after the one last served on, the first with steps left, which are then one less; where none has any, and
-- where the record (slot 8 was served; 4 of 3 steps are left) or the store (one pixel short, one too long) is refused, all as it was
abbrev pub table : List Row
table =
    row 2 2 3 16384 0 (9 ∷ []) 6 2 2
    ∷ row 6 2 3 16384 0 (5 ∷ []) 2 1 3
    ∷ row 7 1 3 16384 0 (5 ∷ []) 2 0 3
    ∷ row 2 1 0 16384 0 (5 ∷ []) 2 0 0
    ∷ row 6 0 1 16384 0 (9 ∷ []) 6 0 0
    ∷ row 2 0 0 16384 0 [] 2 0 0
    ∷ row 8 2 3 16384 2 [] 8 2 3
    ∷ row 2 4 3 16384 2 [] 2 4 3
    ∷ row 2 2 3 16383 2 [] 2 2 3
    ∷ row 2 2 3 16385 2 [] 2 2 3
    ∷ []

abbrev pub computed : Row → Row
computed r =
    let t = tick_of current_rules (two_jobs r.served r.left_of5 r.left_of9) (replicate r.pixels 0) in
    row r.served r.left_of5 r.left_of9 r.pixels (answer_number t.answer) (answer_values t.answer) t.service.served (slot_at t.service 2).left (slot_at t.service 6).left

pub turns : map computed table ≡ table
unfolding tick_of usable in_order slot_fine filled_fine all_zero kernel_exists free_fits first_from count_of every_place
turns = refl

-- ---- the change-over of an old record, whole
abbrev pub old_seat : ℕ → ℤ → ℤ → ℤ → ℕ → ℕ → ℕ → ℕ → BaseSlot
old_seat number xx xy yy steps left w h =
    record {
      number = number;
      xx = xx;
      xy = xy;
      yy = yy;
      steps = steps;
      left = left;
      width = w;
      height = h;
    }

abbrev pub old_none : BaseSlot
old_none = old_seat 0 (pos 0) (pos 0) (pos 0) 0 0 0 0

-- job 5 in slot 2, half done, and job 9 in slot 6, finished; slot 6 was filled last
abbrev pub old_record : ℕ → BaseService
old_record served =
    record {
      slots =
          old_none ∷ old_none
          ∷ old_seat 5 (pos 4097) (pos 0) (pos 4096) 2 1 3 4
          ∷ old_none ∷ old_none ∷ old_none
          ∷ old_seat 9 (pos 1000) (negsuc 699) (pos 1001) 3 0 5 6
          ∷ old_none ∷ [];
      last = 11;
      filled = 6;
      served = served;
    }

-- "with the smallest f in each filled seat": 4097 + 4096 − 8192, and |−700|
pub change_made : change_of (old_record 2)
    ≡ Ok (
    keeps
    (none ∷ none
    ∷ seat_with 1 (seat 5 (pos 4097) (pos 0) (pos 4096) 2 1 3 4)
    ∷ none ∷ none ∷ none
    ∷ seat_with 700 (seat 9 (pos 1000) (negsuc 699) (pos 1001) 3 0 5 6)
    ∷ none ∷ [])
    11 6 2
    )
unfolding in_order slot_fine filled_fine all_zero kernel_exists count_of every_place
change_made = refl

-- slot 8 was served: 2
pub change_refused : change_of (old_record 8) ≡ Err RecordOutOfOrder
unfolding in_order slot_fine filled_fine all_zero kernel_exists count_of every_place
change_refused = refl
