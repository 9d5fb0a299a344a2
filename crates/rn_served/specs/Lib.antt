pub mod Entries
pub mod Lines
pub mod Listed
pub mod Served
pub mod Undoing
