pub mod link
pub mod Answering
pub mod Heights
