pub mod Lines
pub mod Refusing
pub mod NetTexts
pub mod Input
pub mod TextCommands
pub mod Writing
