pub mod Applications
pub mod Parts
pub mod Passing
