pub mod NumberedInstances
pub mod NamesOfRuns
pub mod TextsOfLogs
pub mod ShortParts
pub mod WrittenStates
pub mod PouredStates
