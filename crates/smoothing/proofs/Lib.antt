-- Laws about runs, apart from the functions' own proofs.
pub mod Steps
pub mod Runs
pub mod Theorems
pub mod InPlace
pub mod Spots
pub mod Cases
