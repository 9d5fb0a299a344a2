pub mod WellFormed
pub mod SpelledForms
