pub mod Stored
pub mod Sides
