pub mod Words
pub mod Errors
