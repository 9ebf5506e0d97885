pub mod Faults
pub mod Published
pub mod Building
pub mod Back
