pub mod OccurringLemmas
pub mod MarkLemmas
