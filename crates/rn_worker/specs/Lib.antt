pub mod link
pub mod Ends
pub mod Pacing
