pub mod Choices
pub mod Commands
pub mod Laws
pub mod Reading
pub mod Table
pub mod Values
