pub mod Flats
pub mod Writings
pub mod Tapes
pub mod Layings
