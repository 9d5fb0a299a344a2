pub mod Asks
pub mod Fillings
pub mod Groups
pub mod Joining
pub mod Meeting
pub mod Room
pub mod Rows
pub mod Seats
