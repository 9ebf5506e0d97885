pub mod Errors
pub mod Text
