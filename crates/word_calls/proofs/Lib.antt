-- The laws that the proofs share, a tick through words, demand 3 of lists of exported calls, and worked calls.
pub mod Laws
pub mod Ticks
pub mod Held
pub mod Fields
pub mod Seen
pub mod Lists
pub mod Table
pub mod Cases
pub mod Change
