pub mod Chunks
pub mod Forms
pub mod LeafSteps
pub mod Leaves
pub mod Steps
