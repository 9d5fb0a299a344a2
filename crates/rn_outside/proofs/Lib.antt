pub mod FaultLemmas
pub mod ByteLemmas
