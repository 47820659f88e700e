-- The laws that the proofs share, and those that a caller of the row core cites.
pub mod Division
pub mod Averages
pub mod Pixels
pub mod Parts
pub mod Rows
