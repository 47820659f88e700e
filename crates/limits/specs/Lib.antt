-- The definitions that every layer above cites: limits and error codes.
pub mod Limits
pub mod Errors
