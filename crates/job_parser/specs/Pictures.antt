-- The pixels that a job text can have. Definitions only.
use Rattle.std.specs.Prelude.{ℕ}

-- the pixels that a text of 16,386 bytes can hold at most: each takes a digit and a separator, and line one comes first
abbrev pub most_pixels : ℕ
most_pixels = 8191
