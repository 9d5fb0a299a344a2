pub mod Changed
pub mod Outcomes
pub mod States
