pub mod link
pub mod Cuts
pub mod Slots
pub mod Words
