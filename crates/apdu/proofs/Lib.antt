pub mod Narrow
pub mod Only
pub mod Written
