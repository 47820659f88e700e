-- The laws that the proofs share.
pub mod Buffers
pub mod Windows
pub mod Whole
