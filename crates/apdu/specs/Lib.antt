pub mod Faults
pub mod Kinds
pub mod Forms
pub mod Reading
pub mod Writings
