-- The laws that the proofs share, which picture a run ends in, and worked cases.
pub mod Laws
pub mod LastStep
pub mod Table
pub mod Cases
