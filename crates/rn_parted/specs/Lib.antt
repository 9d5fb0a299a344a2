pub mod link
pub mod Lesser
pub mod Laws
pub mod Parted
pub mod Parting
