-- What a kernel is: the nine offsets, the weights of the molecule, the free number and its choices, and when a kernel exists.
pub mod Offsets
pub mod Molecule
pub mod Choice
pub mod Existence
pub mod Centre
pub mod Sound
pub mod Answer
