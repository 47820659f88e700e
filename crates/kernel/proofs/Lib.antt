-- The laws that the proofs share, and the theorems on kernels.
pub mod Signs
pub mod Moments
pub mod Plain
pub mod Answers
pub mod Theorems
pub mod Ratios
pub mod Centre
pub mod Examples
pub mod Choices
pub mod Bounds
