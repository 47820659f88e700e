-- Readers of a text from its front on. Definitions only.
use Rattle.std.specs.Prelude.{ℕ, zero, suc, ◌+◌, ◌-◌, ◌*◌, Bool, cond, ◌&&◌, List, [], ◌∷◌, ◌++◌, leb, eqb, ℤ, pos, negsuc}
use Rattle.kernel.specs.declared.Choice.{Choice}
use Rattle.kernel.specs.declared.Choice.TheVariants.{Binomial, Smallest}
use Rattle.limits.specs.Limits.{largest_pixel}
use Rattle.job_printer.specs.Numerals.{minus_sign, digit}
use Rattle.job_printer.specs.Fields.{separator, newline}
use Rattle.job_parser.specs.declared.Format.{Format}
use Rattle.job_parser.specs.declared.Format.TheVariants.{J, N}
use Rattle.job_parser.specs.Formats.{choice_letter}
use Rattle.job_parser.specs.Job.{most_positive, most_negative}

-- what stands at the front of a text: a value and the text after it, or nothing that can be read
pub data Reading (A : Type 0) : Type 0 where
  found : A → List ℕ → Reading A
  nothing : Reading A

abbrev pub Reader : Type 0 → Type 0
Reader A = List ℕ → Reading A

abbrev pub and_then : {A B : Type 0} → Reading A → (A → Reader B) → Reading B
and_then (found a rest) f = f a rest
and_then nothing f = nothing

-- one reader after the other, the second with the value of the first
infixl 10 ◌>>=◌
abbrev pub ◌>>=◌ : {A B : Type 0} → Reader A → (A → Reader B) → Reader B
◌>>=◌ reader f text = and_then (reader text) f

infixl 10 ◌>>◌
abbrev pub ◌>>◌ : {A B : Type 0} → Reader A → Reader B → Reader B
◌>>◌ reader other = reader >>= (λ a. other)

-- a value, with nothing read
abbrev pub pure : {A : Type 0} → A → Reader A
pure a text = found a text

-- the byte b
unfoldable pub read_byte : ℕ → Reader (Unit {0})
read_byte b [] = nothing
read_byte b (c ∷ text) = cond (eqb c b) (found tt text) nothing

abbrev pub is_digit : ℕ → Bool
is_digit b = leb (digit 0) b && leb b (digit 9)

-- further digits of a number that has come to v, up to the byte `end`
unfoldable pub read_digits : ℕ → ℕ → ℕ → Reader ℕ
read_digits limit end v [] = nothing
read_digits limit end v (b ∷ text) =
    let next = v * 10 + (b - digit 0) in
    cond (eqb b end) (found v text) (cond (is_digit b && leb next limit) (read_digits limit end next text) nothing)

-- a number of at most `limit`, and the byte `end` after it: 0, or digits of which the first is not 0
unfoldable pub read_number : ℕ → ℕ → Reader ℕ
read_number limit end [] = nothing
read_number limit end (b ∷ text) =
    cond (eqb b (digit 0)) ((read_byte end >> pure 0) text) (cond (eqb b end) nothing (read_digits limit end 0 (b ∷ text)))

-- the value after a minus, which is not 0
abbrev pub minus : ℕ → Reader ℤ
minus zero text = nothing
minus (suc n) text = found (negsuc n) text

-- a negative number without its minus, and the byte `end` after it
unfoldable pub read_negative : ℕ → Reader ℤ
read_negative end = read_number most_negative end >>= minus

-- a signed number, and the byte `end` after it
unfoldable pub read_signed : ℕ → Reader ℤ
read_signed end [] = nothing
read_signed end (b ∷ text) =
    cond (eqb b minus_sign) (read_negative end text) ((read_number most_positive end >>= (λ n. pure (pos n))) (b ∷ text))

-- the letter of a choice
unfoldable pub read_letter : Reader Choice
read_letter [] = nothing
read_letter (b ∷ text) =
    cond (eqb b (choice_letter Smallest)) (found Smallest text) (cond (eqb b (choice_letter Binomial)) (found Binomial text) nothing)

-- what follows h: a text that names no choice has the smallest
unfoldable pub read_choice : Format → Reader Choice
read_choice J = pure Smallest
read_choice N = do
  choice ← read_letter
  read_byte newline
  pure choice

-- n pixels to the end of their line
unfoldable pub read_row : ℕ → Reader (List ℕ)
read_row zero = pure []
read_row (suc n) = do
  pixel ← read_number largest_pixel (separator n)
  pixels ← read_row n
  pure (pixel ∷ pixels)

-- "h lines of w pixels"
unfoldable pub read_rows : ℕ → ℕ → Reader (List ℕ)
read_rows w zero = pure []
read_rows w (suc h) = do
  row ← read_row w
  rows ← read_rows w h
  pure (row ++ rows)
