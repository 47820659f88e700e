-- The laws that the proofs share.
pub mod Laws
pub mod Apart
