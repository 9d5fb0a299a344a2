pub mod link
pub mod Conditions
pub mod Expressions
pub mod Inscriptions
pub mod Laws
pub mod Levels
pub mod Readings
pub mod Signs
