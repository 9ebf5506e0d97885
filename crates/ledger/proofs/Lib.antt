pub mod Fields
pub mod Halves
