-- Every number of REFERENCE's refusals and every limit as a literal, and each check at its ends. The numbers are REFERENCE's,
-- so that a definition and the code cannot be wrong alike. Each table has one computed proof. Assumes nothing.
use mathlib.Core.Path.{◌≡◌, refl}
use mathlib.Core.Bool.{Bool, true, false}
use mathlib.Core.List.{List, [], ◌∷◌, map}
use Prim.Native.Nat.{ℕ}
use Rattle.limits.specs.Limits.{units_per_square_pixel, largest_pixel, most_steps, longest_side, buffer_pixels, within_of, steps_in_range, sides_in_range, fills_picture, fits_buffer}
use Rattle.limits.specs.Errors.{number_of, outcome_number, Check, ◌otherwise◌, first_refusal, value_or, held_after, Outcome}
use Rattle.limits.specs.declared.ErrorCode.{ErrorCode}
use Rattle.limits.specs.declared.ErrorCode.TheVariants.{TextIsNoJob, RecordOutOfOrder, VarianceOutOfRange, NotADirection, StepsOutOfRange, SideOutOfRange, NoSuchJob, StepsAreLeft, WrongLength, TooManyPixels, NoKernel, NoFreeBuffers, NumbersUsedUp, CannotGoBack}
use Rattle.std.specs.Prelude.{Ok, Err}

-- ---- "Refusals in checking order", 1 to 14: each by itself, and as the answer of a call
abbrev pub refusals : List (ErrorCode × ℕ)
refusals =
    -- "The text is not a job"
    (TextIsNoJob, 1)
    -- "The service record is not in order, or the store's length is not 16,384."
    ∷ (RecordOutOfOrder, 2)
    -- "A variance of a Round or an Oval is not a number or lies outside 0 to 64."
    ∷ (VarianceOutOfRange, 3)
    -- "A cosine or sine is not a number or lies outside −1 to 1, or (c·c) + (s·s) lies outside 1023/1024 to 1025/1024."
    ∷ (NotADirection, 4)
    -- "Steps are not 1 to 64."
    ∷ (StepsOutOfRange, 5)
    -- "A width or height is not 1 to 1024."
    ∷ (SideOutOfRange, 6)
    -- "No seat has this job number (0 included)."
    ∷ (NoSuchJob, 7)
    -- "The job has steps left (collect only)."
    ∷ (StepsAreLeft, 8)
    -- "A lent picture's length is not w × h"
    ∷ (WrongLength, 9)
    -- "A submitted picture has more than 1024 pixels."
    ∷ (TooManyPixels, 10)
    -- "No kernel exists."
    ∷ (NoKernel, 11)
    -- "Fewer than two buffers are free."
    ∷ (NoFreeBuffers, 12)
    -- "The last number given is 2^64 − 1."
    ∷ (NumbersUsedUp, 13)
    -- "An N text with b cannot go back to J"
    ∷ (CannotGoBack, 14)
    ∷ []

pub numbered : map (λ row. number_of row.0) refusals ≡ map (λ row. row.1) refusals
numbered = refl

pub answered : outcome_number (Ok tt) ∷ map (λ row. outcome_number (Err row.0)) refusals ≡ 0 ∷ map (λ row. row.1) refusals
answered = refl

-- ---- the limits: "in 1/4096 square pixel", "0 to 65535", "1 to 64", "1 to 1024", "16 buffers of 1024 pixels"
pub limited : units_per_square_pixel ∷ largest_pixel ∷ most_steps ∷ longest_side ∷ buffer_pixels ∷ [] ≡ 4096 ∷ 65535 ∷ 64 ∷ 1024 ∷ 1024 ∷ []
limited = refl

-- ---- a range has both of its ends: 2 to 5
abbrev pub ranged : List (ℕ × Bool)
ranged = (1, false) ∷ (2, true) ∷ (5, true) ∷ (6, false) ∷ []

pub within : map (λ row. within_of 2 5 row.0) ranged ≡ map (λ row. row.1) ranged
within = refl

-- ---- a step count, and whether it is 1 to 64 (refusal 5)
abbrev pub step_counts : List (ℕ × Bool)
step_counts = (0, false) ∷ (1, true) ∷ (64, true) ∷ (65, false) ∷ (4294967295, false) ∷ []

pub counted : map (λ row. steps_in_range row.0) step_counts ≡ map (λ row. row.1) step_counts
counted = refl

-- ---- a width and a height, and whether both are 1 to 1024 (refusal 6): the ends of each by itself
abbrev pub sides : List (ℕ × ℕ × Bool)
sides =
    (1, 1, true)
    ∷ (1024, 1024, true)
    ∷ (1024, 1, true)
    ∷ (1, 1024, true)
    ∷ (0, 1, false)
    ∷ (1, 0, false)
    ∷ (1025, 1024, false)
    ∷ (1024, 1025, false)
    ∷ (0, 1025, false)
    ∷ []

pub sided : map (λ row. sides_in_range row.0 row.1) sides ≡ map (λ row. row.2) sides
sided = refl

-- ---- a length, a width and a height, and whether the first is the product of the others (refusal 9): of 3 × 2 pixels one less, equal
-- and one more, and the products of a side with itself, 9 and 4
abbrev pub lengths : List (ℕ × ℕ × ℕ × Bool)
lengths =
    (5, 3, 2, false)
    ∷ (6, 3, 2, true)
    ∷ (7, 3, 2, false)
    ∷ (6, 2, 3, true)
    ∷ (9, 3, 2, false)
    ∷ (4, 3, 2, false)
    ∷ (1048575, 1024, 1024, false)
    ∷ (1048576, 1024, 1024, true)
    ∷ (1048577, 1024, 1024, false)
    ∷ []

pub filled : map (λ row. fills_picture row.0 row.1 row.2) lengths ≡ map (λ row. row.3) lengths
filled = refl

-- ---- a width and a height, and whether their product is at most 1024 (refusal 10); 41 × 25 is 1025
abbrev pub pictures : List (ℕ × ℕ × Bool)
pictures =
    (1, 1, true)
    ∷ (32, 32, true)
    ∷ (1024, 1, true)
    ∷ (1, 1024, true)
    ∷ (41, 25, false)
    ∷ (1025, 1, false)
    ∷ (1, 1025, false)
    ∷ (1024, 1024, false)
    ∷ []

pub fitted : map (λ row. fits_buffer row.0 row.1) pictures ≡ map (λ row. row.2) pictures
fitted = refl

-- ---- checks, and what they come to: "in this order, and a refusal answers its number alone"
abbrev pub checks : List (List Check × Outcome)
checks =
    ([], Ok tt)
    ∷ ((true otherwise StepsOutOfRange) ∷ [], Ok tt)
    ∷ ((false otherwise StepsOutOfRange) ∷ [], Err StepsOutOfRange)
    ∷ ((true otherwise StepsOutOfRange) ∷ (true otherwise NoKernel) ∷ [], Ok tt)
    ∷ ((true otherwise StepsOutOfRange) ∷ (false otherwise NoKernel) ∷ [], Err NoKernel)
    ∷ ((false otherwise StepsOutOfRange) ∷ (true otherwise NoKernel) ∷ [], Err StepsOutOfRange)
    ∷ ((false otherwise StepsOutOfRange) ∷ (false otherwise NoKernel) ∷ [], Err StepsOutOfRange)
    ∷ ((true otherwise StepsOutOfRange) ∷ (false otherwise SideOutOfRange) ∷ (false otherwise NoKernel) ∷ [], Err SideOutOfRange)
    ∷ []

pub checked : map (λ row. first_refusal row.0) checks ≡ map (λ row. row.1) checks
checked = refl

-- ---- "every lent buffer keep their contents": an outcome, what was made, what a lent slice held before, and what it holds after
abbrev pub slices : List (Outcome × List ℕ × List ℕ × List ℕ)
slices = (Ok tt, 1 ∷ 2 ∷ [], 3 ∷ 4 ∷ [], 1 ∷ 2 ∷ []) ∷ (Err NoKernel, 1 ∷ 2 ∷ [], 3 ∷ 4 ∷ [], 3 ∷ 4 ∷ []) ∷ []

pub kept : map (λ row. held_after row.0 row.1 row.2) slices ≡ map (λ row. row.3) slices
kept = refl

-- ---- and a lent number that held 9: nothing was answered, and 5
pub lent : value_or [] 9 ∷ value_or (5 ∷ 6 ∷ []) 9 ∷ [] ≡ 9 ∷ 5 ∷ []
lent = refl
