pub mod link
pub mod Holders
