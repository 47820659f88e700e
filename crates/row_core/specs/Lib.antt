-- What the contracts of the row core and of the crates above it cite.
pub mod Weights
pub mod Prepared
pub mod Rows
pub mod Stretches
