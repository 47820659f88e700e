-- Worked readings.
pub mod Table
pub mod Cases
