pub mod link
pub mod Counting
pub mod Phrases
pub mod Single
pub mod Texts
