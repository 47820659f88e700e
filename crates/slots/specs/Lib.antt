-- What a search over the slots is told, and the slots' numbers.
pub mod Searches
pub mod Numbers
