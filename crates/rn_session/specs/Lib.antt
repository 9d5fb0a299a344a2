pub mod link
pub mod Sessions
