pub mod Laws
pub mod Poured
pub mod Written
