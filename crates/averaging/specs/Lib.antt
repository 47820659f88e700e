-- What a smoothing step, a run and the exact run are, how far apart two pictures are, and what a step does to bright spots.
pub mod Steps
pub mod Distances
pub mod Neighbours
pub mod Extrema
