-- What the calls leave behind.
pub mod Pictures
