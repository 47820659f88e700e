-- `parse` reads every job's text as that job, and nothing else: a text that is read is that job's text, so that no job has
-- two spellings. Assumes nothing.
use mathlib.Core.Path.{◌≡◌, refl, sym, ◌∙◌}
use mathlib.Core.Bool.{Bool, true, false}
use mathlib.Core.List.{List, [], ◌∷◌, ◌++◌, append_assoc, append-nil}
use mathlib.Core.Option.{some, none}
use Prim.Native.Nat.{ℕ, ◌≤◌, ◌<◌}
use native.Mathlib.Omega.{arith}
use borrow.Author.Tests.{le-leb, leb-true}
use lib.Dec.{leb}
use lib.ListN.{length, length-append}
use Rattle.kernel.specs.declared.Choice.{Choice}
use Rattle.kernel.specs.declared.Choice.TheVariants.{Smallest}
use Rattle.job_printer.specs.Numerals.{digit, numeral, integer}
use Rattle.job_printer.specs.Fields.{tab, newline, line, row_lines}
use Rattle.job_printer.proofs.Numerals.{numeral_long, integer_long}
use Rattle.job_parser.specs.Job.{Job, header_text, text_of, most_unsigned, Signed, HeaderInTypes, InTypes, IsText}
use Rattle.job_parser.specs.declared.Format.{Format}
use Rattle.job_parser.specs.declared.Format.TheVariants.{J, N}
use Rattle.job_parser.specs.Formats.{letter_of, longest_of, choice_letter, height_end, CanHave}
use Rattle.job_parser.specs.Reading.{Reading, found, nothing, Reader, and_then, ◌>>=◌, read_byte, read_number, read_signed, read_letter, read_choice, read_rows}
use Rattle.job_parser.specs.Parsing.{read_entries, read_sizes, header_from, read_header, read_job, whole, parse}
use Rattle.kernel.specs.declared.Covariance.{Covariance}
use Rattle.job_parser.specs.declared.Sizes.{Sizes}
use Rattle.job_parser.specs.declared.Header.{Header}
use Rattle.job_parser.proofs.Readers.{Reads, Only, Exact, halves, as_found, byte_exact, number_exact, number_only, signed_exact, signed_only, letter_exact}
use Rattle.job_parser.proofs.Rows.{rows_reads, rows_only}

-- two readers find something one after the other: so does the first
within : {A B : Type 0} (reader : Reader A) (f : A → Reader B) {text rest : List ℕ} {b : B} {P : Type 0} → (reader >>= f) text ≡ found b rest → ((a : A) (after : List ℕ) → reader text ≡ found a after → f a after ≡ found b rest → P) → P
within reader f {text} {rest} {b} h k = let w = halves reader f text b rest h in k w.value w.after w.first w.second

-- a reader finds something, and what it goes on with finds r
on : {A B : Type 0} (f : A → Reader B) {x : Reading A} {a : A} {rest : List ℕ} {r : Reading B} → x ≡ found a rest → f a rest ≡ r → and_then x f ≡ r
on f e g = rw e g

tab_apart : tab < digit 0
tab_apart = omega arith

end_apart : (format : Format) → height_end format < digit 0
end_apart J = omega arith
end_apart N = omega arith

abbrev pub entries_text : Covariance → List ℕ
entries_text e = (integer e.xx ++ tab ∷ []) ++ ((integer e.xy ++ tab ∷ []) ++ (integer e.yy ++ tab ∷ []))

abbrev pub sizes_text : ℕ → Sizes → List ℕ
sizes_text end s = (numeral s.steps ++ tab ∷ []) ++ ((numeral s.width ++ tab ∷ []) ++ (numeral s.height ++ end ∷ []))

abbrev pub choice_text : Format → Choice → List ℕ
choice_text J choice = []
choice_text N choice = choice_letter choice ∷ newline ∷ []

pub record EntriesInTypes (e : Covariance) : Type 0 where
  pub xx : Signed e.xx
  pub xy : Signed e.xy
  pub yy : Signed e.yy

pub record SizesInTypes (s : Sizes) : Type 0 where
  pub steps : s.steps ≤ most_unsigned
  pub width : s.width ≤ most_unsigned
  pub height : s.height ≤ most_unsigned

three : (a b c rest : List ℕ) → (a ++ (b ++ c)) ++ rest ≡ a ++ (b ++ (c ++ rest))
three a b c rest = simp append_assoc

entries_reads : Reads read_entries entries_text EntriesInTypes
unfolding read_entries
entries_reads e rest types =
    let after_xy = (integer e.yy ++ tab ∷ []) ++ rest in
    let after_xx = (integer e.xy ++ tab ∷ []) ++ after_xy in
    rw (three (integer e.xx ++ tab ∷ []) (integer e.xy ++ tab ∷ []) (integer e.yy ++ tab ∷ []) rest)
    (on _ ((signed_exact tab tab_apart).reads e.xx after_xx types.xx)
    (on _ ((signed_exact tab tab_apart).reads e.xy after_xy types.xy)
    (on _ ((signed_exact tab tab_apart).reads e.yy rest types.yy) refl)))

entries_only : Only read_entries entries_text EntriesInTypes
unfolding read_entries
entries_only text e rest h =
    within (read_signed tab) _ h (λ xx t₁ e₁ h₁.
    within (read_signed tab) _ h₁ (λ xy t₂ e₂ h₂.
    within (read_signed tab) _ h₂ (λ yy t₃ e₃ h₃.
    let b₁ = signed_only tab text xx t₁ e₁ in
    let b₂ = signed_only tab t₁ xy t₂ e₂ in
    let b₃ = signed_only tab t₂ yy t₃ e₃ in
    as_found (λ e rest. (text ≡ entries_text e ++ rest) × EntriesInTypes e) h₃ (
      b₁.0 ∙ rw (b₂.0, b₃.0) (sym (three (integer xx ++ tab ∷ []) (integer xy ++ tab ∷ []) (integer yy ++ tab ∷ []) t₃)),
      record { xx = b₁.1; xy = b₂.1; yy = b₃.1 },
    ))))

pub entries_exact : Exact read_entries entries_text EntriesInTypes
entries_exact = record { reads = entries_reads; only = entries_only }

sizes_reads : (end : ℕ) → end < digit 0 → Reads (read_sizes end) (sizes_text end) SizesInTypes
unfolding read_sizes
sizes_reads end apart s rest types =
    let after_width = (numeral s.height ++ end ∷ []) ++ rest in
    let after_steps = (numeral s.width ++ tab ∷ []) ++ after_width in
    rw (three (numeral s.steps ++ tab ∷ []) (numeral s.width ++ tab ∷ []) (numeral s.height ++ end ∷ []) rest)
    (on _ ((number_exact most_unsigned tab tab_apart).reads s.steps after_steps types.steps)
    (on _ ((number_exact most_unsigned tab tab_apart).reads s.width after_width types.width)
    (on _ ((number_exact most_unsigned end apart).reads s.height rest types.height) refl)))

pub sizes_only : (end : ℕ) → Only (read_sizes end) (sizes_text end) SizesInTypes
unfolding read_sizes
sizes_only end text s rest h =
    within (read_number most_unsigned tab) _ h (λ steps t₁ e₁ h₁.
    within (read_number most_unsigned tab) _ h₁ (λ width t₂ e₂ h₂.
    within (read_number most_unsigned end) _ h₂ (λ height t₃ e₃ h₃.
    let b₁ = number_only most_unsigned tab text steps t₁ e₁ in
    let b₂ = number_only most_unsigned tab t₁ width t₂ e₂ in
    let b₃ = number_only most_unsigned end t₂ height t₃ e₃ in
    as_found (λ s rest. (text ≡ sizes_text end s ++ rest) × SizesInTypes s) h₃ (
      b₁.0 ∙ rw (b₂.0, b₃.0) (sym (three (numeral steps ++ tab ∷ []) (numeral width ++ tab ∷ []) (numeral height ++ end ∷ []) t₃)),
      record { steps = b₁.1; width = b₂.1; height = b₃.1 },
    ))))

pub sizes_exact : (end : ℕ) → end < digit 0 → Exact (read_sizes end) (sizes_text end) SizesInTypes
sizes_exact end apart = record { reads = sizes_reads end apart; only = sizes_only end }

-- the choice after h, in each format
choice_reads : (format : Format) → Reads (read_choice format) (choice_text format) (CanHave format)
unfolding read_choice
choice_reads J c rest is = rw is
choice_reads N c rest is = on _ (letter_exact.reads c (newline ∷ rest) tt) (on _ ((byte_exact newline).reads tt rest tt) refl)

choice_only : (format : Format) → Only (read_choice format) (choice_text format) (CanHave format)
unfolding read_choice
choice_only J text c rest h = as_found (λ c rest. (text ≡ rest) × (c ≡ Smallest)) h (refl, refl)
choice_only N text c rest h =
    within read_letter _ h (λ c₁ t₁ e₁ h₁.
    within (read_byte newline) _ h₁ (λ u t₂ e₂ h₂.
    as_found (λ c rest. (text ≡ choice_letter c ∷ newline ∷ rest) × Unit {0}) h₂
    ((letter_exact.only text c₁ t₁ e₁).0 ∙ rw ((byte_exact newline).only t₁ u t₂ e₂).0, tt)))

pub choice_exact : (format : Format) → Exact (read_choice format) (choice_text format) (CanHave format)
choice_exact format = record { reads = choice_reads format; only = choice_only format }

-- line one in its parts
abbrev sizes_of_lem : Header → Sizes
sizes_of_lem h = record { steps = h.steps; width = h.width; height = h.height }

abbrev pub parts_text : Format → Header → List ℕ
parts_text format h = letter_of format ∷ tab ∷ (entries_text h.covariance ++ (sizes_text (height_end format) (sizes_of_lem h) ++ choice_text format h.choice))

pub parts : (format : Format) (h : Header) → header_text format h ≡ parts_text format h
unfolding line
parts J h = simp (append_assoc, append-nil)
parts N h = simp append_assoc

module _ (format : Format) where
  header_reads : Reads (read_header format) (header_text format) (HeaderInTypes format)
  unfolding read_header
  header_reads h rest types =
      let e = h.covariance in
      let s = sizes_of_lem h in
      let after_sizes = choice_text format h.choice ++ rest in
      let after_entries = sizes_text (height_end format) s ++ after_sizes in
      rw (parts, three (entries_text e) (sizes_text (height_end format) s) (choice_text format h.choice) rest)
      (on _ ((byte_exact (letter_of format)).reads tt (tab ∷ (entries_text e ++ after_entries)) tt)
      (on _ ((byte_exact tab).reads tt (entries_text e ++ after_entries) tt)
      (on _ (entries_reads e after_entries (record { xx = types.xx; xy = types.xy; yy = types.yy }))
      (on _ (sizes_reads (height_end format) (end_apart format) s after_sizes (record { steps = types.steps; width = types.width; height = types.height }))
      (on _ (choice_reads format h.choice rest types.choice) refl)))))

  header_only : Only (read_header format) (header_text format) (HeaderInTypes format)
  unfolding read_header
  header_only text header rest h =
      within (read_byte (letter_of format)) _ h (λ u t₁ e₁ h₁.
      within (read_byte tab) _ h₁ (λ v t₂ e₂ h₂.
      within read_entries _ h₂ (λ e t₃ e₃ h₃.
      within (read_sizes (height_end format)) _ h₃ (λ s t₄ e₄ h₄.
      within (read_choice format) _ h₄ (λ c t₅ e₅ h₅.
      let b₁ = ((byte_exact (letter_of format)).only text u t₁ e₁).0 in
      let b₂ = ((byte_exact tab).only t₁ v t₂ e₂).0 in
      let b₃ = entries_only t₂ e t₃ e₃ in
      let b₄ = sizes_only (height_end format) t₃ s t₄ e₄ in
      let b₅ = choice_only format t₄ c t₅ e₅ in
      as_found (λ header rest. (text ≡ header_text format header ++ rest) × HeaderInTypes format header) h₅ (
        b₁ ∙ rw (b₂, b₃.0, b₄.0, b₅.0, parts format (header_from e s c), three (entries_text e) (sizes_text (height_end format) s) (choice_text format c) t₅),
        record { xx = b₃.1.xx; xy = b₃.1.xy; yy = b₃.1.yy; steps = b₄.1.steps; width = b₄.1.width; height = b₄.1.height; choice = b₅.1 },
      ))))))

  pub header_exact : Exact (read_header format) (header_text format) (HeaderInTypes format)
  header_exact = record { reads = header_reads; only = header_only }

  -- six fields of at least a digit and a separator, after the letter and a tab
  pub header_long : (h : Header) → 14 ≤ length (header_text format h)
  header_long h =
      rw parts
      (simp length-append
      (omega (arith, integer_long h.covariance.xx, integer_long h.covariance.xy, integer_long h.covariance.yy, numeral_long h.steps, numeral_long h.width, numeral_long h.height)))

  job_reads : Reads (read_job format) (text_of format) (InTypes format)
  unfolding read_job
  job_reads job rest types =
      let h = job.header in
      let rows = row_lines h.width h.height job.pixels in
      rw append_assoc
      (on _ (header_reads h (rows ++ rest) types.header)
      (on _ (rows_reads h.width h.height job.pixels rest types.count types.pixels) refl))

  job_only : Only (read_job format) (text_of format) (InTypes format)
  unfolding read_job
  job_only text job rest h =
      within (read_header format) _ h (λ header t₁ e₁ h₁.
      within (read_rows header.width header.height) _ h₁ (λ pixels t₂ e₂ h₂.
      let line_one = header_only text header t₁ e₁ in
      let rows = rows_only header.width header.height t₁ pixels t₂ e₂ in
      as_found (λ job rest. (text ≡ text_of format job ++ rest) × InTypes format job) h₂
      (line_one.0 ∙ rw (rows.is, append_assoc), record { header = line_one.1; pixels = rows.small; count = rows.count })))

  -- every job that has a text is read back from it
  pub parse_text : (text : List ℕ) (job : Job) → IsText format text job → parse format text ≡ some job
  unfolding parse
  parse_text text job h =
      rw (le-leb (length text) (longest_of format) h.short) (rw h.bytes (rw (rw append-nil at (job_reads job [] h.types))))

  -- and a text that is read is that text
  pub text_parsed : (text : List ℕ) (job : Job) → parse format text ≡ some job → IsText format text job
  unfolding parse
  text_parsed text job h = short (leb (length text) (longest_of format)) refl
    where
      no_job_lem : none ≡ some job → ⊥
      no_job_lem e = let z : ◌≡◌ {A = ℕ} 0 1 = cc in omega arith

      ended : (r : Reading Job) → read_job format text ≡ r → whole r ≡ some job → read_job format text ≡ found job []
      ended (found j []) e w = let same : j ≡ job = cc in e ∙ rw same
      ended (found j (b ∷ rest)) e w = absurd (no_job_lem w)
      ended nothing e w = absurd (no_job_lem w)

      short : (t : Bool) → leb (length text) (longest_of format) ≡ t → IsText format text job
      short true e =
          let only = job_only text job [] (ended (read_job format text) refl (rw e at h)) in
          record { bytes = only.0 ∙ append-nil (text_of format job); short = leb-true (length text) (longest_of format) e; types = only.1 }
      short false e = let g : none ≡ some job = rw e at h in absurd (no_job_lem g)
