-- docs/REFERENCE.md, "Archived texts and the converter": the two formats of a job text, which differ in their letter, in the field that
-- names the choice of f, and in their longest text. Definitions only.
use Rattle.std.specs.Prelude.{◌≡◌, List, [], ◌∷◌, ℕ}
use Rattle.kernel.specs.declared.Choice.{Choice}
use Rattle.kernel.specs.declared.Choice.TheVariants.{Binomial, Smallest}
use Rattle.job_printer.specs.Fields.{tab, newline}
use Rattle.job_parser.specs.declared.Format.{Format}
use Rattle.job_parser.specs.declared.Format.TheVariants.{J, N}

-- the first byte of a text: "New job texts begin with N", "Line one: J, xx, xy, yy, k, w, h"
abbrev pub letter_of : Format → ℕ
letter_of J = 74
letter_of N = 78

-- "An N text may have 16,386 bytes; a J text has at most 16,384, as before"
abbrev pub longest_of : Format → ℕ
longest_of J = 16384
longest_of N = 16386

-- "s for smallest, b for the rule of S-2"
abbrev pub choice_letter : Choice → ℕ
choice_letter Smallest = 115
choice_letter Binomial = 98

-- the fields of line one after h: "an eighth field after h"
abbrev pub choice_fields : Format → Choice → List (List ℕ)
choice_fields J choice = []
choice_fields N choice = (choice_letter choice ∷ []) ∷ []

-- so that h is the last field, or is followed by another
abbrev pub height_end : Format → ℕ
height_end J = newline
height_end N = tab

-- the choices that a text can have: "f was the smallest then" where it names none
abbrev pub CanHave : Format → Choice → Type 0
CanHave J choice = choice ≡ Smallest
CanHave N choice = Unit {0}
