-- REFERENCE's worked cases.
pub mod Table
