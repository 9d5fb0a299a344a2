pub mod BackLemmas
pub mod HoldingLemmas
pub mod NearMentions
pub mod PutLemmas
pub mod ReachingLemmas
pub mod ReferenceLemmas
