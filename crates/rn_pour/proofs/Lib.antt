pub mod Flows
pub mod Pieces
