pub mod Chunks
pub mod Rows
pub mod Fields
