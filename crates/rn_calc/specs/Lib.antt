pub mod link
pub mod FitComparisons
pub mod FitOperands
pub mod OwnKinds
pub mod Readings
