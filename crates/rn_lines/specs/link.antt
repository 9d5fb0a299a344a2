pub mod LinesSeen
pub mod NodeSeen
pub mod Said
