-- What a difference is: stencils, the directional one, what the calls answer, and the distance from the exact run's.
pub mod Stencils
pub mod Directional
pub mod Answers
pub mod Distances
pub mod Places
