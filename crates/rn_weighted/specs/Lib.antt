pub mod Limits
pub mod Weighted
pub mod TextLength
