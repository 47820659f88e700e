-- What a call through words leaves behind, and demand 3 of lists of such calls.
pub mod Exported
pub mod Lists
