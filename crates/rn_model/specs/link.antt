pub mod MarkingCodes
pub mod OrderLaws
