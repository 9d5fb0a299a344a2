pub mod link
pub mod Begun
pub mod Commands
pub mod Laws
pub mod TopCall
