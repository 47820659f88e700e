-- A text by its bytes, for tables that are read beside REFERENCE. Definitions only.
use Rattle.std.specs.Prelude.{ℕ, List, [] as none, ◌∷◌ as ◌then◌}
use Prim.Native.Char.{code}
use Prim.Native.String.{String, [], ◌∷◌}

-- the bytes of an ASCII text: each character's number
unfoldable pub bytes : String → List ℕ
bytes [] = none
bytes (c ∷ text) = code c then bytes text
