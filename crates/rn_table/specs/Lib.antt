pub mod link
pub mod Alone
pub mod Changes
pub mod Laws
pub mod Staying
pub mod Tables
