-- Laws.
pub mod Readers
pub mod Rows
pub mod Filling
pub mod Parsing
pub mod Bounds
pub mod Jobs
pub mod Theorems
pub mod Cases
