pub mod ComparisonLemmas
pub mod FitByKinds
pub mod FittingLemmas
pub mod MentionLemmas
pub mod NodeLookups
pub mod OneValue
pub mod OperandLemmas
