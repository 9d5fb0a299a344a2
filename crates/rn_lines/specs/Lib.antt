pub mod link
pub mod Laws
pub mod LineReading
pub mod LineText
pub mod NodeReading
pub mod NodeText
pub mod Reading
pub mod ValueText
