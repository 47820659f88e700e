-- The laws that the proofs share, what is read of what was written, the words after a tick, the fields of the record that they hold, those of a record from before slots held f,
-- and a record worked through.
pub mod Laws
pub mod ReadBack
pub mod Turns
pub mod Fields
pub mod Ranges
pub mod Widened
pub mod Table
pub mod Cases
