pub mod link
pub mod Acted
pub mod Laws
