-- A size below 2 ^ 31 is an i32, and so is 0 less it. Assumes nothing.
use Rattle.std.proofs.Common.{◌≡◌, ℕ, zero, suc, ◌^◌, ◌<◌, pos, ◌-ℤ◌, neg_ℤ, sym, ap, ◌∙◌, subst, arith, w32, SFits, to_z}
use lib.IntN.{+ℤ_idl}
use lib.Signed.{mag}
use mir.ValLaws.{to_z_pos}

fits : (n : ℕ) → n < 2 ^ 31 → mag (neg_ℤ (pos n)) < 2 ^ 31
fits zero h = omega arith
fits (suc n) h = omega arith

module _ (n : ℕ) (h : n < 2 ^ 31) where
  pub negation : pos 0 -ℤ to_z w32 n ≡ neg_ℤ (pos n)
  negation = +ℤ_idl (neg_ℤ (to_z w32 n)) ∙ ap neg_ℤ (to_z_pos w32 n h)

  pub negation_fits : SFits w32 (pos 0 -ℤ to_z w32 n)
  negation_fits = subst (λ z. SFits w32 z) (sym negation) (record { sfits = fits n h })
