pub mod Chunks
pub mod Pools
pub mod SlotIndices
pub mod Tags
