-- What is asked of places in the store.
pub mod Places
