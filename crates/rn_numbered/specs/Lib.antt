pub mod link
pub mod Numbered
