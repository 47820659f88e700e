-- A job text in another format.
pub mod Conversion
