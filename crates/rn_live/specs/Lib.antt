pub mod link
pub mod Laws
pub mod Rooms
