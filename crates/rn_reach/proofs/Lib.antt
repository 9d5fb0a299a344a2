pub mod ChangedInstances
pub mod OtherInstances
pub mod ReachDecided
pub mod ReachLemmas
