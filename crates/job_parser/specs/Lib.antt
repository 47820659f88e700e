-- The text of a job, and what is read of it.
pub mod Formats
pub mod Job
pub mod Reading
pub mod Parsing
pub mod Found
pub mod Pictures
