pub mod BindingLines
pub mod EntriesInOrder
pub mod NamesInOrder
pub mod NumberedValues
pub mod PartsOfRecords
pub mod RepeatedTexts
