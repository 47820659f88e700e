-- Laws.
pub mod Bounds
pub mod Runs
pub mod Answering
pub mod Theorems
pub mod Cases
