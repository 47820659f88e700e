-- The answer to a job text.
pub mod Answer
pub mod Shape
