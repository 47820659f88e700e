-- The laws of images and averages, and the theorems on the rounded and the exact run.
pub mod Images
pub mod Averages
pub mod Rounding
pub mod Runs
pub mod Distance
pub mod Bounds
pub mod Neighbours
pub mod Greatest
pub mod Extrema
pub mod Sums
pub mod Brightness
pub mod Examples
pub mod Peaks
pub mod Refuted
