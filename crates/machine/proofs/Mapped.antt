-- A list that has at each place what a function makes of another's entry there is the other one mapped. Assumes nothing.
use mathlib.Core.Path.{◌≡◌, sym, ◌∙◌}
use mathlib.Core.List.{List, map}
use Prim.Native.Nat.{ℕ, ◌<◌}
use native.Mathlib.Omega.{arith}
use lib.ListN.{length, length-map, get_or}
use lib.Seq.{ext_get_or}
use Rattle.machine.proofs.ChangeOver.{mapped_at}

pub mapped_by : {A B : Type 0} (f : A → B) (d : A) (xs : List A) (ys : List B) → length ys ≡ length xs
    → ((i : ℕ) → i < length xs → get_or ys i (f d) ≡ f (get_or xs i d)) → ys ≡ map f xs
mapped_by f d xs ys long same =
    ext_get_or (f d) ys (map f xs) (long ∙ sym (length-map xs f)) (λ i h. same i (omega (arith, long, h)) ∙ sym (mapped_at f d xs i))
