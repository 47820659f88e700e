-- The laws that the proofs share, and the theorems on shapes.
pub mod Negation
pub mod Fractions
pub mod Exact
pub mod Wholes
pub mod Halves
pub mod Sizes
pub mod Answers
pub mod HalfUnit
pub mod Ranges
pub mod Zeros
pub mod Accepted
pub mod Axes
pub mod Refusals
pub mod Cases
