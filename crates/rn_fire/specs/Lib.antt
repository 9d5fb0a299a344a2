pub mod link
pub mod Commits
pub mod Ends
pub mod Nets
pub mod Parts
pub mod States
