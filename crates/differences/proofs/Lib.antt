-- The laws that the proofs share, the theorems on differences, and worked cases.
pub mod Places
pub mod Stencils
pub mod Walk
pub mod Checks
pub mod Distance
pub mod Wholes
pub mod Axes
pub mod Table
pub mod Cases
