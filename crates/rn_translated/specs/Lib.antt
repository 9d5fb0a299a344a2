pub mod AcceptedLaws
pub mod RecordLaws
pub mod RunLaws
pub mod TranslatedSystem
pub mod Translation
pub mod WeightedRuns
