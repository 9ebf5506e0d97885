pub mod Places
pub mod Layout
pub mod Filling
pub mod Fitting
pub mod Flaws
pub mod Writing
pub mod Sound
pub mod Personal
