pub mod link
pub mod Decided
pub mod Decisions
pub mod Equations
pub mod Following
pub mod Grown
pub mod Kinded
pub mod Turns
