pub mod link
pub mod Numbering
