-- When a submit is refused with 11, "No kernel exists", in the wide definition that kernels are held to: nine nonnegative whole
-- weights of any common positive sum. Definitions only; `proofs/Eleven` shows it.
use Rattle.std.specs.Prelude.{◌≡◌, ◌↔◌, true, List, [], ◌∷◌, ℕ, length, Ok, Err}
use Rattle.limits.specs.Limits.{steps_in_range, sides_in_range, fills_picture, fits_buffer}
use Rattle.limits.specs.Errors.{Check, ◌otherwise◌, first_refusal}
use Rattle.limits.specs.declared.ErrorCode.TheVariants.{VarianceOutOfRange, NotADirection, StepsOutOfRange, SideOutOfRange, WrongLength, TooManyPixels, NoKernel}
use Rattle.kernel.specs.Molecule.{units_of}
use Rattle.kernel.specs.Existence.{Weights}
use Rattle.kernel.specs.declared.Choice.{Choice}
use Rattle.covariance.specs.declared.Shape.{Shape}
use Rattle.covariance.specs.Shapes.{variances_fine, direction_fine, covariance_xx, covariance_xy, covariance_yy}
use Rattle.machine.specs.declared.Service.{Service}
use Rattle.machine.specs.Rules.{Rules}
use Rattle.machine.specs.Order.{usable}
use Rattle.machine.specs.Store.{store_length}
use Rattle.machine.specs.Calls.{submit, submit_of}
use Rattle.machine.specs.History.{Entry, opened, after}
use Rattle.machine.specs.Demand.{answer_at}

-- the checks of a submit before 11 that look only at what the caller hands in: 3, 4, 5, 6, 9 and 10
abbrev pub earlier_checks : Shape → ℕ → ℕ → ℕ → List ℕ → List Check
earlier_checks shape k w h pixels =
    (variances_fine shape otherwise VarianceOutOfRange)
    ∷ (direction_fine shape otherwise NotADirection)
    ∷ (steps_in_range k otherwise StepsOutOfRange)
    ∷ (sides_in_range w h otherwise SideOutOfRange)
    ∷ (fills_picture (length pixels) w h otherwise WrongLength)
    ∷ (fits_buffer w h otherwise TooManyPixels)
    ∷ []

-- none of them applies, and no nine weights have the shape's covariance over the steps
pub record OnlyNoKernel (shape : Shape) (k w h : ℕ) (pixels : List ℕ) : Type 0 where
  pub earlier : first_refusal (earlier_checks shape k w h pixels) ≡ Ok tt
  pub no_weights : Weights (covariance_xx shape) (covariance_xy shape) (covariance_yy shape) (units_of k) → ⊥

-- by given rules, of any record and any store; and at the place after any list from the opening on; by whichever choice, since kernels
-- exist for the same shapes
pub record ElevenExactly (rules : Rules) : Type 0 where
  pub called : (r : Service) (store : List ℕ) (choice : Choice) (shape : Shape) (k w h : ℕ) (pixels : List ℕ)
      → ((submit_of rules r store choice shape k w h pixels).answer ≡ Err NoKernel) ↔ ((usable rules r store ≡ true) × OnlyNoKernel shape k w h pixels)
  pub listed : (store : List ℕ) → length store ≡ store_length → (entries : List Entry) (choice : Choice) (shape : Shape) (k w h : ℕ) (pixels : List ℕ)
      → (answer_at (after (opened rules store) entries) (submit choice shape k w h pixels) ≡ Err NoKernel) ↔ OnlyNoKernel shape k w h pixels
