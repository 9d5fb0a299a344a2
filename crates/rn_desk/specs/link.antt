pub mod Seats
pub mod Taken
