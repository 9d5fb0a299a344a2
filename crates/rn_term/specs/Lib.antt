pub mod link
pub mod Assignments
pub mod Forcing
pub mod GroundTerms
pub mod Laws
pub mod Occurring
pub mod Stores
pub mod Undoing
