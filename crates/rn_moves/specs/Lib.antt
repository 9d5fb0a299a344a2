pub mod link
pub mod Laws
pub mod Moves
pub mod MovesText
pub mod Order
