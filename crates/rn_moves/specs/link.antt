pub mod Connecting
pub mod Movable
pub mod OrderLaws
