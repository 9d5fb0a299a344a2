pub mod Known
pub mod Resting
