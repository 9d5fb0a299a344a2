pub mod AppliedAt
mod CallLooks
mod DecidedThings
mod EquatedTokens
mod FlexibleLooks
pub mod GuardLooks
mod InhibitorLooks
pub mod KindedAnswers
pub mod KindedNodes
pub mod KindedValues
pub mod KnownValues
mod LevelLooks
pub mod ListsBeside
mod LookSteps
mod LookedAt
mod LookedResults
mod Makers
mod NodeLooks
mod SettledLooks
mod Targets
mod TokenLooks
mod VarsOfForms
