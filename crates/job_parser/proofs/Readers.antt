-- Each reader finds exactly the texts that it is for: what is written is found, and what is found is what was written.
-- Assumes nothing.
use mathlib.Core.Path.{◌≡◌, refl, ◌∙◌, subst₂}
use mathlib.Core.Bool.{Bool, true, false, ◌&&◌}
use mathlib.Core.List.{List, [], ◌∷◌, ◌++◌, append_assoc}
use Prim.Native.Nat.{ℕ, zero, suc, ◌+◌, ◌-◌, ◌*◌, ◌/◌, ◌%◌, ◌≤◌, ◌<◌}
use native.Mathlib.Nat.{pos_of_ne-zero}
use native.Mathlib.Omega.{arith}
use borrow.Author.Tests.{ltb-true, ltb-false, eq-eqb, ne_eqb, eqb-true, eqb-false, le-leb, leb-true}
use lib.Dec.{leb, ltb, eqb}
use lib.IntN.{ℤ, pos, negsuc}
use Rattle.kernel.specs.declared.Choice.TheVariants.{Binomial, Smallest}
use Rattle.limits.proofs.Laws.{both_true}
use Rattle.job_printer.specs.Numerals.{digit, numeral, integer, minus_sign}
use Rattle.job_printer.proofs.Numerals.{one_digit, last_digit, one_more, led}
use Rattle.job_parser.specs.Job.{Signed, most_negative, most_positive}
use Rattle.job_parser.specs.Formats.{choice_letter}
use Rattle.job_parser.specs.Reading.{Reading, found, nothing, Reader, ◌>>=◌, pure, is_digit, read_byte, read_digits, read_number, minus, read_negative, read_signed, read_letter}

-- a reader finds the text of each value that is allowed
abbrev pub Reads : {A : Type 0} → Reader A → (A → List ℕ) → (A → Type 0) → Type 0
Reads {A} reader write Allowed = (a : A) (rest : List ℕ) → Allowed a → reader (write a ++ rest) ≡ found a rest

-- and nothing else
abbrev pub Only : {A : Type 0} → Reader A → (A → List ℕ) → (A → Type 0) → Type 0
Only {A} reader write Allowed = (text : List ℕ) (a : A) (rest : List ℕ) → reader text ≡ found a rest → (text ≡ write a ++ rest) × Allowed a

pub record Exact {A : Type 0} (reader : Reader A) (write : A → List ℕ) (Allowed : A → Type 0) : Type 0 where
  pub reads : Reads reader write Allowed
  pub only : Only reader write Allowed

-- the first reader's finding, where two find something one after the other
pub record Halves {A B : Type 0} (reader : Reader A) (f : A → Reader B) (text : List ℕ) (b : B) (rest : List ℕ) : Type 0 where
  pub value : A
  pub after : List ℕ
  pub first : reader text ≡ found value after
  pub second : f value after ≡ found b rest

pub halves : {A B : Type 0} (reader : Reader A) (f : A → Reader B) (text : List ℕ) (b : B) (rest : List ℕ) → (reader >>= f) text ≡ found b rest → Halves reader f text b rest
halves reader f text b rest h = go (reader text) refl
  where
    go : (r : Reading _) → reader text ≡ r → Halves reader f text b rest
    go (found a after) e = record { value = a; after = after; first = e; second = rw e at h }
    go nothing e = absurd (let z : ◌≡◌ {A = ℕ} 0 1 = cc in omega arith)

-- what holds of one finding holds of an equal one
pub as_found : {A : Type 0} (P : A → List ℕ → Type 0) {a b : A} {r s : List ℕ} → found a r ≡ found b s → P a r → P b s
as_found P e h = subst₂ P (cc) (cc) h

never : {A : Type 0} (r : Reading A) (a : A) (rest : List ℕ) → r ≡ nothing → r ≡ found a rest → ⊥
never r a rest e h = let z : ◌≡◌ {A = ℕ} 0 1 = cc in omega arith

-- one byte
pub byte_exact : (b : ℕ) → Exact (read_byte b) (λ u. b ∷ []) (λ u. Unit {0})
unfolding read_byte
byte_exact b = record { reads = λ u rest t. rw (eq-eqb b b refl); only = only }
  where
    only : (text : List ℕ) (u : Unit {0}) (rest : List ℕ) → read_byte b text ≡ found u rest → (text ≡ b ∷ rest) × Unit {0}
    only [] u rest h = absurd (never nothing u rest refl h)
    only (c ∷ text) u rest h = go (eqb c b) refl
      where
        go : (t : Bool) → eqb c b ≡ t → (c ∷ text ≡ b ∷ rest) × Unit {0}
        go true e = let g : found tt text ≡ found u rest = rw e at h in let s : c ≡ b = eqb-true c b e in (cc, tt)
        go false e = let g : nothing ≡ found u rest = rw e at h in absurd (never nothing u rest refl g)

-- the letter of a choice
pub letter_only : Only read_letter (λ c. choice_letter c ∷ []) (λ c. Unit {0})
unfolding read_letter
letter_only [] c rest h = absurd (never nothing c rest refl h)
letter_only (b ∷ text) c rest h = smallest (eqb b (choice_letter Smallest)) refl
  where
    binomial : (t : Bool) → eqb b (choice_letter Binomial) ≡ t → eqb b (choice_letter Smallest) ≡ false → (b ∷ text ≡ choice_letter c ∷ rest) × Unit {0}
    binomial true e f =
        let g : found Binomial text ≡ found c rest = rw (f, e) at h in
        as_found (λ c rest. (b ∷ text ≡ choice_letter c ∷ rest) × Unit {0}) g (rw (eqb-true b (choice_letter Binomial) e), tt)
    binomial false e f = let g : nothing ≡ found c rest = rw (f, e) at h in absurd (never nothing c rest refl g)

    smallest : (t : Bool) → eqb b (choice_letter Smallest) ≡ t → (b ∷ text ≡ choice_letter c ∷ rest) × Unit {0}
    smallest true e =
        let g : found Smallest text ≡ found c rest = rw e at h in
        as_found (λ c rest. (b ∷ text ≡ choice_letter c ∷ rest) × Unit {0}) g (rw (eqb-true b (choice_letter Smallest) e), tt)
    smallest false e = binomial (eqb b (choice_letter Binomial)) refl e

letter_reads : Reads read_letter (λ c. choice_letter c ∷ []) (λ c. Unit {0})
unfolding read_letter
letter_reads Smallest rest t = refl
letter_reads Binomial rest t = refl

pub letter_exact : Exact read_letter (λ c. choice_letter c ∷ []) (λ c. Unit {0})
letter_exact = record { reads = letter_reads; only = letter_only }

-- what the next byte of a number leads to: its value, or one digit more
data ReadOn (limit end v b n : ℕ) (text rest : List ℕ) : Type 0 where
  at_end : b ≡ end → v ≡ n → text ≡ rest → ReadOn limit end v b n text rest
  by_digit : (d : ℕ) → b ≡ digit d → d < 10 → v * 10 + d ≤ limit → read_digits limit end (v * 10 + d) text ≡ found n rest → ReadOn limit end v b n text rest

module _ (limit end : ℕ) where
  read_on : (v b n : ℕ) (text rest : List ℕ) → read_digits limit end v (b ∷ text) ≡ found n rest → ReadOn limit end v b n text rest
  unfolding read_digits
  read_on v b n text rest h = go (eqb b end) refl
    where
      further : (t : Bool) → is_digit b && leb (v * 10 + (b - digit 0)) limit ≡ t → eqb b end ≡ false → ReadOn limit end v b n text rest
      further true e f =
          let both = both_true (is_digit b) (leb (v * 10 + (b - digit 0)) limit) e in
          let ends = both_true (leb (digit 0) b) (leb b (digit 9)) both.0 in
          let low : 48 ≤ b = leb-true 48 b ends.0 in
          let high : b ≤ 57 = leb-true b 57 ends.1 in
          by_digit (b - digit 0) (omega arith) (omega arith) (leb-true _ _ both.1) (rw (f, e) at h)
      further false e f = let g : nothing ≡ found n rest = rw (f, e) at h in absurd (never nothing n rest refl g)

      go : (t : Bool) → eqb b end ≡ t → ReadOn limit end v b n text rest
      go true e = let g : found v text ≡ found n rest = rw e at h in at_end (eqb-true b end e) (cc) (cc)
      go false e = further (is_digit b && leb (v * 10 + (b - digit 0)) limit) refl e

  only_digits : (v n : ℕ) (text rest : List ℕ) → 0 < v → v ≤ limit → read_digits limit end v text ≡ found n rest → (numeral v ++ text ≡ numeral n ++ end ∷ rest) × (n ≤ limit)
  unfolding read_digits
  only_digits v n [] rest low high h = absurd (never nothing n rest refl h)
  only_digits v n (b ∷ text) rest low high h = go (read_on v b n text rest h) (λ w. only_digits w n text rest)
    where
      go : ReadOn limit end v b n text rest → ((w : ℕ) → 0 < w → w ≤ limit → read_digits limit end w text ≡ found n rest → (numeral w ++ text ≡ numeral n ++ end ∷ rest) × (n ≤ limit)) → (numeral v ++ b ∷ text ≡ numeral n ++ end ∷ rest) × (n ≤ limit)
      go (at_end e f g) r = (cc, omega arith)
      go (by_digit d e k fits g) r =
          let later = r (v * 10 + d) (omega arith) fits g in
          (rw e (rw (one_more v d low k, append_assoc) at later).0, later.1)

  pub number_only : (text : List ℕ) (n : ℕ) (rest : List ℕ) → read_number limit end text ≡ found n rest → (text ≡ (numeral n ++ end ∷ []) ++ rest) × (n ≤ limit)
  unfolding read_number
  number_only [] n rest h = absurd (never nothing n rest refl h)
  number_only (b ∷ text) n rest h = zero_first (eqb b (digit 0)) refl
    where
      by_digits : ReadOn limit end 0 b n text rest → (b ≡ digit 0 → ⊥) → (b ≡ end → ⊥) → (b ∷ text ≡ (numeral n ++ end ∷ []) ++ rest) × (n ≤ limit)
      by_digits (at_end e f g) z k = absurd (k e)
      by_digits (by_digit d e k fits g) z other =
          let low : 0 < d = pos_of_ne-zero (λ w. z (omega arith)) in
          let one : 0 * 10 + d ≡ d = omega arith in
          let later = only_digits d n text rest low (omega arith) (rw one at g) in
          (rw (e, append_assoc) (rw (one_digit d k) at later).0, later.1)

      end_first : (t : Bool) → eqb b end ≡ t → eqb b (digit 0) ≡ false → (b ∷ text ≡ (numeral n ++ end ∷ []) ++ rest) × (n ≤ limit)
      end_first true e f = let g : nothing ≡ found n rest = rw (f, e) at h in absurd (never nothing n rest refl g)
      end_first false e f = by_digits (read_on 0 b n text rest (rw (f, e) at h)) (eqb-false b (digit 0) f) (eqb-false b end e)

      zero_first : (t : Bool) → eqb b (digit 0) ≡ t → (b ∷ text ≡ (numeral n ++ end ∷ []) ++ rest) × (n ≤ limit)
      zero_first true e =
          let two = halves (read_byte end) (λ u. pure 0) text n rest (rw e at h) in
          let s = ((byte_exact end).only text two.value two.after two.first).0 in
          let z : ◌≡◌ {A = Reading ℕ} (found 0 two.after) (found n rest) = two.second in
          let value : 0 ≡ n = cc in
          let same : two.after ≡ rest = cc in
          (rw (← value, one_digit 0 (omega arith), eqb-true b (digit 0) e, s, same), omega arith)
      zero_first false e = end_first (eqb b end) refl e

module _ (limit end : ℕ) (apart : end < digit 0) where
  -- a digit takes the number on by one place
  one_on : (v d : ℕ) (text : List ℕ) → d < 10 → v * 10 + d ≤ limit → read_digits limit end v (digit d ∷ text) ≡ read_digits limit end (v * 10 + d) text
  unfolding read_digits
  one_on v d text h k =
      let e : 48 + d - 48 ≡ d = omega arith in
      rw (ne_eqb (digit d) end (λ p. omega arith), e, le-leb 48 (48 + d) (omega arith), le-leb (48 + d) 57 (omega arith), le-leb (v * 10 + d) limit k)

  through : (p n : ℕ) (text : List ℕ) → n < p → 0 < n → n ≤ limit → read_digits limit end 0 (numeral n ++ text) ≡ read_digits limit end n text
  through zero n text h low high = absurd (omega arith)
  through (suc p) n text h low high = go (ltb n 10) refl (through p (n / 10) (digit (n % 10) ∷ text))
    where
      go : (b : Bool) → ltb n 10 ≡ b → (n / 10 < p → 0 < n / 10 → n / 10 ≤ limit → read_digits limit end 0 (numeral (n / 10) ++ digit (n % 10) ∷ text) ≡ read_digits limit end (n / 10) (digit (n % 10) ∷ text)) → read_digits limit end 0 (numeral n ++ text) ≡ read_digits limit end n text
      go true e r =
          let s : n < 10 = ltb-true n 10 e in
          let z : 0 * 10 + n ≡ n = omega arith in
          rw (one_digit n s) (one_on 0 n text s (omega arith) ∙ rw z)
      go false e r =
          let s : 10 ≤ n = ltb-false n 10 e in
          let z : n / 10 * 10 + n % 10 ≡ n = omega arith in
          rw (last_digit n s, append_assoc) (r (omega arith) (omega arith) (omega arith) ∙ one_on (n / 10) (n % 10) text (omega arith) (omega arith) ∙ rw z)

  at_its_end : (v : ℕ) (rest : List ℕ) → read_digits limit end v (end ∷ rest) ≡ found v rest
  unfolding read_digits
  at_its_end v rest = rw (eq-eqb end end refl)

  -- a number that begins with a digit from 1 to 9 is digits
  begun : (b : ℕ) (text : List ℕ) → (b ≡ digit 0 → ⊥) → (b ≡ end → ⊥) → read_number limit end (b ∷ text) ≡ read_digits limit end 0 (b ∷ text)
  unfolding read_number
  begun b text z e = rw (ne_eqb b (digit 0) z, ne_eqb b end e)

  number_reads : (n : ℕ) (rest : List ℕ) → n ≤ limit → read_number limit end ((numeral n ++ end ∷ []) ++ rest) ≡ found n rest
  unfolding read_number
  number_reads zero rest h = rw (one_digit 0 (omega arith)) (rw ((byte_exact end).reads tt rest tt))
  number_reads (suc n) rest h =
      let l = led (suc n) in
      let low : 0 < l.first = l.not_zero (omega arith) in
      let first = begun (digit l.first) (l.others ++ end ∷ rest) (λ e. omega arith) (λ e. omega arith) in
      rw (append_assoc, l.is) (first ∙ rw l.is at (through (suc (suc n)) (suc n) (end ∷ rest) (omega arith) (omega arith) h) ∙ at_its_end (suc n) rest)

  pub number_exact : Exact (read_number limit end) (λ n. numeral n ++ end ∷ []) (λ n. n ≤ limit)
  number_exact = record { reads = number_reads; only = number_only limit end }

-- a number that is found goes on as another value
signed_reads : (end : ℕ) → end < digit 0 → (z : ℤ) (rest : List ℕ) → Signed z → read_signed end ((integer z ++ end ∷ []) ++ rest) ≡ found z rest
unfolding read_signed read_negative
signed_reads end apart (pos n) rest h =
    let l = led n in
    let number = number_reads most_positive end apart n rest h in
    rw (append_assoc, l.is, ne_eqb (digit l.first) minus_sign (λ e. omega arith)) (rw (rw (append_assoc, l.is) at number))
signed_reads end apart (negsuc n) rest h = rw (number_reads most_negative end apart (suc n) rest h)

pub signed_only : (end : ℕ) (text : List ℕ) (z : ℤ) (rest : List ℕ) → read_signed end text ≡ found z rest → (text ≡ (integer z ++ end ∷ []) ++ rest) × Signed z
unfolding read_signed read_negative
signed_only end [] z rest h = absurd (never nothing z rest refl h)
signed_only end (b ∷ text) z rest h = go (eqb b minus_sign) refl
  where
    turned : (n : ℕ) (after : List ℕ) → minus n after ≡ found z rest → read_number most_negative end text ≡ found n after → b ≡ minus_sign → (b ∷ text ≡ (integer z ++ end ∷ []) ++ rest) × Signed z
    turned zero after e f m = absurd (never nothing z rest refl e)
    turned (suc n) after e f m =
        let whole = number_only most_negative end text (suc n) after f in
        let value : negsuc n ≡ z = cc in
        let same : after ≡ rest = cc in
        rw (← value, ← same, m, whole.0) (refl, whole.1)

    kept : (n : ℕ) (after : List ℕ) → ◌≡◌ {A = Reading ℤ} (found (pos n) after) (found z rest) → read_number most_positive end (b ∷ text) ≡ found n after → (b ∷ text ≡ (integer z ++ end ∷ []) ++ rest) × Signed z
    kept n after e f =
        let whole = number_only most_positive end (b ∷ text) n after f in
        let value : pos n ≡ z = cc in
        let same : after ≡ rest = cc in
        rw (← value, ← same) whole

    go : (t : Bool) → eqb b minus_sign ≡ t → (b ∷ text ≡ (integer z ++ end ∷ []) ++ rest) × Signed z
    go true e =
        let two = halves (read_number most_negative end) minus text z rest (rw e at h) in
        turned two.value two.after two.second two.first (eqb-true b minus_sign e)
    go false e =
        let two = halves (read_number most_positive end) (λ n. pure (pos n)) (b ∷ text) z rest (rw e at h) in
        kept two.value two.after two.second two.first

pub signed_exact : (end : ℕ) → end < digit 0 → Exact (read_signed end) (λ z. integer z ++ end ∷ []) Signed
signed_exact end apart = record { reads = signed_reads end apart; only = signed_only end }
