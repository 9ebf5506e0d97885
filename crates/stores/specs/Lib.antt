pub mod Sizes
pub mod Meaning
pub mod Flat
pub mod Tape
