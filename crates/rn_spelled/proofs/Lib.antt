pub mod WithinLevels
pub mod KindDepths
pub mod ExpressionDepths
pub mod ConditionDepths
pub mod SpelledInscriptions
pub mod SpelledTexts
