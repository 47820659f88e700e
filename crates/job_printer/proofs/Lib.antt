-- Laws.
pub mod Loops
pub mod Numerals
pub mod Buffers
pub mod Printing
pub mod Divisors
pub mod Theorems
pub mod Cases
