pub mod Steps
pub mod Sorts
pub mod Wholes
pub mod Uncounted
