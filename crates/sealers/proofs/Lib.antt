pub mod Buffers
pub mod Decks
pub mod Mixes
