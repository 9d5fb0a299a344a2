pub mod link
pub mod Entries
pub mod Numbered
pub mod Passes
pub mod Steps
pub mod Turns
