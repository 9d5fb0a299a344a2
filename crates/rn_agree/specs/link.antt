pub mod Agreeing
pub mod Parts
