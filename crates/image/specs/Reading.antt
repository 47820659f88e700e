-- What a reading call answers. Definitions only.
use Rattle.std.specs.Prelude.{List, [], ◌∷◌, ℕ, length, ℤ, Result, Ok, Err}
use Rattle.limits.specs.Limits.{sides_in_range, fills_picture}
use Rattle.limits.specs.Errors.{◌otherwise◌, first_refusal, answer_with, number_of}
use Rattle.limits.specs.declared.ErrorCode.TheVariants.{SideOutOfRange, WrongLength}
use Rattle.limits.specs.declared.ErrorCode.{ErrorCode}
use Rattle.image.specs.Image.{pixel_at}

-- the pixel, or a refusal
abbrev pub Reading : Type 0
Reading = Result ℕ ErrorCode

-- REFERENCE's number of each answer, 0 for a pixel, and the value that it carries
abbrev pub reading_number : Reading → ℕ
reading_number (Ok p) = 0
reading_number (Err code) = number_of code

abbrev pub reading_values : Reading → List ℕ
reading_values (Ok p) = p ∷ []
reading_values (Err code) = []

-- refusals 6 and 9, in checking order, else the pixel
unfoldable pub reading_of : ℕ → ℕ → List ℕ → ℤ → ℤ → Reading
reading_of w h pixels x y =
    answer_with
    (first_refusal ((sides_in_range w h otherwise SideOutOfRange) ∷ (fills_picture (length pixels) w h otherwise WrongLength) ∷ []))
    (pixel_at w h pixels x y)
