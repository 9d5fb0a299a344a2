pub mod link
pub mod Channels
pub mod Declarations
pub mod Faults
pub mod Names
pub mod PatternLaws
pub mod Patterns
