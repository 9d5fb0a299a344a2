pub mod link
pub mod Soundness
