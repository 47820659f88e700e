-- What a run between two lent pictures leaves in them, what its reader is shown, and what a run within one picture leaves in it.
pub mod Checks
pub mod Runs
pub mod Shown
pub mod InPlace
