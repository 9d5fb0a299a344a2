pub mod Kept
pub mod Uplinks
