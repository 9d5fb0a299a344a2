pub mod LineReading
pub mod NumberedBindings
pub mod UndoneEntries
