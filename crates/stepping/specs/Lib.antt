-- What the contracts of a step by rows cite.
pub mod Step
pub mod Buffers
pub mod Whole
