pub mod link
pub mod Faults
pub mod Found
