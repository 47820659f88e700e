-- Parts of the running calls, and the change-over as they make it.
pub mod Called
pub mod Given
