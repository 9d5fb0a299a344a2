pub mod Faults
pub mod NextNames
pub mod Stages
