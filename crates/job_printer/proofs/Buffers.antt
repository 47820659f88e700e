-- Writing into a buffer: one entry more, and one part after another. Assumes nothing.
use mathlib.Core.Path.{◌≡◌, refl, sym, ◌∙◌}
use mathlib.Core.List.{List, [], ◌∷◌, ◌++◌, append_assoc}
use Prim.Native.Nat.{ℕ, suc, ◌+◌, ◌≤◌, ◌<◌}
use native.Mathlib.Nat.{add_assoc, add-zero}
use native.Mathlib.Numerals.{add-one}
use native.Mathlib.Omega.{arith}
use lib.ListN.{length, take, drop, set, length-append, length-drop, take-append-drop}
use lib.Seq.{length-take-le, take-take, take-append-le, drop-drop, take_at, drop_at, set_split}
use Rattle.job_printer.specs.Buffers.{written, Wrote}

pub set_written : (l : List ℕ) (at v : ℕ) → at < length l → set l at v ≡ written l at (v ∷ [])
unfolding written
set_written l at v h = set_split l at v h ∙ rw add-one

module _ (l : List ℕ) (at : ℕ) where
  pub written_none : written l at [] ≡ l
  unfolding written
  written_none = rw add-zero (take-append-drop at l)

  module _ (vs : List ℕ) (fits : at + length vs ≤ length l) where
    inside : length (take at l) ≡ at
    inside = length-take-le at l (omega arith)

    pub length_written : length (written l at vs) ≡ length l
    unfolding written
    length_written = simp (length-append, inside, length-drop) (omega arith)

    front : length (take at l ++ vs) ≡ at + length vs
    front = rw (length-append, inside)

    regrouped : written l at vs ≡ (take at l ++ vs) ++ drop (at + length vs) l
    unfolding written
    regrouped = sym (append_assoc (take at l) vs (drop (at + length vs) l))

    -- what was written, and what stood before it
    pub written_front : take (at + length vs) (written l at vs) ≡ take at l ++ vs
    written_front = rw regrouped (take_at (take at l ++ vs) (drop (at + length vs) l) (at + length vs) front)

    -- what stands behind it
    pub written_back : drop (at + length vs) (written l at vs) ≡ drop (at + length vs) l
    written_back = rw regrouped (drop_at (take at l ++ vs) (drop (at + length vs) l) (at + length vs) front)

    -- one part after another
    pub written_on : (us : List ℕ) → written (written l at vs) (at + length vs) us ≡ written l at (vs ++ us)
    unfolding written
    written_on us =
        let behind : drop (at + length vs + length us) (written l at vs) ≡ drop (at + length vs + length us) l
        = sym (drop-drop (length us) (at + length vs) (written l at vs)) ∙ rw written_back (drop-drop (length us) (at + length vs) l) in
        rw (written_front, behind, length-append, append_assoc, append_assoc, ← add_assoc)

  -- one entry more
  pub written_one : (vs : List ℕ) (v : ℕ) → at + length vs < length l → set (written l at vs) (at + length vs) v ≡ written l at (vs ++ v ∷ [])
  written_one vs v h =
      let fits : at + length vs ≤ length l = omega arith in
      set_written (written l at vs) (at + length vs) v (rw (length_written vs fits) h) ∙ written_on vs fits (v ∷ [])

-- one entry before what was written
pub written_before : (l : List ℕ) (j v : ℕ) (vs : List ℕ) → suc j + length vs ≤ length l → set (written l (suc j) vs) j v ≡ written l j (v ∷ vs)
unfolding written
written_before l j v vs fits =
    let whole : List ℕ = written l (suc j) vs in
    let behind : List ℕ = vs ++ drop (suc j + length vs) l in
    let long : length (take (suc j) l) ≡ suc j = length-take-le (suc j) l (omega arith) in
    let inside : j < length whole = rw (length_written l (suc j) vs fits) (omega arith) in
    let front : take j whole ≡ take j l = take-append-le j (take (suc j) l) behind (omega arith) ∙ take-take j (suc j) l (omega arith) in
    let back : drop (j + 1) whole ≡ behind = rw add-one (drop_at (take (suc j) l) behind (suc j) long) in
    let same : suc j + length vs ≡ j + suc (length vs) = omega arith in
    set_written whole j v inside ∙ rw (front, back, same)

-- a text was written: there is still room for what follows it
module _ (entry : List ℕ) (at : ℕ) (text : List ℕ) where
  pub wrote_inside : (more : List ℕ) (exit : List ℕ) (next : ℕ) → at + length (text ++ more) ≤ length entry → Wrote entry at text exit next → next + length more ≤ length exit
  wrote_inside more exit next room w =
      let whole = length-append text more in
      let ends = w.ends in
      rw (w.is, length_written entry at text (omega arith)) (omega arith)

  -- one text after another
  pub wrote_on : (more middle exit : List ℕ) (next last : ℕ) → at + length (text ++ more) ≤ length entry → Wrote entry at text middle next → Wrote middle next more exit last → Wrote entry at (text ++ more) exit last
  wrote_on more middle exit next last room w v =
      let whole = length-append text more in
      let fits : at + length text ≤ length entry = omega arith in
      let ends = w.ends in
      let ends-too = v.ends in
      record { is = v.is ∙ rw (w.is, w.ends) (written_on entry at text fits more); ends = rw length-append (omega arith) }

-- one byte
pub wrote_byte : (entry : List ℕ) (at b : ℕ) → at < length entry → Wrote entry at (b ∷ []) (set entry at b) (at + 1)
wrote_byte entry at b h = record { is = set_written entry at b h; ends = refl }

-- the same text by another name
pub wrote_as : {entry text exit : List ℕ} {at next : ℕ} {other : List ℕ} → text ≡ other → Wrote entry at text exit next → Wrote entry at other exit next
wrote_as e w = rw e at w
