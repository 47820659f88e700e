-- What a shape is in whole numbers: the exact value of a float, the nearest whole number, the tests of refusals 3 and 4, the
-- covariance of each shape, and what the calls that take a shape answer.
pub mod Floats
pub mod Units
pub mod Shapes
pub mod Answer
pub mod Axes
pub mod Cuts
