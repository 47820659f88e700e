-- Laws that the layers above cite.
pub mod Laws
pub mod Checks
pub mod Cases
