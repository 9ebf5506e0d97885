pub mod Fits
pub mod Big
pub mod Parts
