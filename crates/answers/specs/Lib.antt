pub mod Sizes
pub mod Lengths
pub mod Known
pub mod Faults
pub mod Checking
pub mod Answered
pub mod Fields
