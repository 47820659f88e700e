-- The service record as words.
pub mod Words
