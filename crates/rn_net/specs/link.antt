pub mod Answers
pub mod Lists
pub mod Parts
pub mod Progress
