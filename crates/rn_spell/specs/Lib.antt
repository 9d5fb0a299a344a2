pub mod link
pub mod Made
pub mod Spelling
