-- Laws.
pub mod Lines
pub mod Spelling
pub mod Checks
pub mod Parts
pub mod Theorems
pub mod Cases
