-- What lent buffers hold. Definitions only.
use Rattle.std.specs.Prelude.{◌≡◌, List, ◌++◌, ℕ, ◌+◌, ◌≤◌, length, take, drop}
use Rattle.job_printer.specs.declared.printer.Printer.{Printer}

-- a buffer after `entries` were put into it from a place on: what stands before and after them is kept
unfoldable pub written : List ℕ → ℕ → List ℕ → List ℕ
written buffer at entries = take at buffer ++ (entries ++ drop (at + length entries) buffer)

-- a text was written into a buffer from a place on, and what follows comes at the place `next`
pub record Wrote (entry : List ℕ) (at : ℕ) (text exit : List ℕ) (next : ℕ) : Type 0 where
  pub is : exit ≡ written entry at text
  pub ends : next ≡ at + length text

-- what is left of a printer's buffer has room for a text
abbrev pub HasRoom : Printer → List ℕ → Type 0
HasRoom p text = p.at + length text ≤ length p.out.now

-- a printer wrote a text into its buffer, which it keeps
pub record Printed (entry : Printer) (text : List ℕ) (exit : Printer) : Type 0 where
  pub same_buffer : exit.out.ghost_name ≡ entry.out.ghost_name
  pub wrote : Wrote entry.out.now entry.at text exit.out.now exit.at
