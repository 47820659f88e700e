-- What the contracts of a step within one image cite.
pub mod Bands
