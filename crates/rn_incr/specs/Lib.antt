pub mod link
pub mod Counts
pub mod Lists
