-- The text format: numbers, fields and lines, and what is written of them into a buffer.
pub mod Numerals
pub mod Fields
pub mod Buffers
pub mod Divisors
pub mod Lines
pub mod Text
