-- REFERENCE's limits, each under one name, and the tests that refusals 5, 6, 9 and 10 make. Definitions only.
use Rattle.std.specs.Prelude.{ℕ, ◌*◌, Bool, ◌&&◌, leb, eqb}

-- "in 1/4096 square pixel"
abbrev pub units_per_square_pixel : ℕ
units_per_square_pixel = 4096

-- "A pixel is a whole number 0 to 65535"
abbrev pub largest_pixel : ℕ
largest_pixel = 65535

-- "Steps are not 1 to 64" (refusal 5)
abbrev pub most_steps : ℕ
most_steps = 64

-- "A width or height is not 1 to 1024" (refusal 6)
abbrev pub longest_side : ℕ
longest_side = 1024

-- "16 buffers of 1024 pixels"; "A submitted picture has more than 1024 pixels" (refusal 10)
abbrev pub buffer_pixels : ℕ
buffer_pixels = 1024

abbrev pub within_of : ℕ → ℕ → ℕ → Bool
within_of low high n = leb low n && leb n high

-- refusal 5 is its failure
abbrev pub steps_in_range : ℕ → Bool
steps_in_range k = within_of 1 most_steps k

abbrev pub side_in_range : ℕ → Bool
side_in_range n = within_of 1 longest_side n

-- refusal 6 is its failure
abbrev pub sides_in_range : ℕ → ℕ → Bool
sides_in_range w h = side_in_range w && side_in_range h

-- "A lent picture's length is not w × h": refusal 9 is its failure
abbrev pub fills_picture : ℕ → ℕ → ℕ → Bool
fills_picture length w h = eqb length (w * h)

-- refusal 10 is its failure
abbrev pub fits_buffer : ℕ → ℕ → Bool
fits_buffer w h = leb (w * h) buffer_pixels
