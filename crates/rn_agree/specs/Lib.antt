pub mod link
pub mod Paths
