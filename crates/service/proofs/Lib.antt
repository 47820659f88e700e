-- The laws that the proofs share, and worked ticks and change-overs.
pub mod Laws
pub mod Change
pub mod Cases
