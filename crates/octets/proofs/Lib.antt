pub mod Bigs
pub mod Pieces
