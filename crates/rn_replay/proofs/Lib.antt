pub mod Beginnings
pub mod Endings
pub mod LastEntries
pub mod MarkLemmas
pub mod Refusals
pub mod SearchedStates
pub mod TrueRecords
pub mod WholeEntries
