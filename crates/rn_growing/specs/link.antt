pub mod Building
pub mod DecisionKeys
pub mod Entering
pub mod Grown
pub mod Indexed
pub mod Keys
pub mod Laid
pub mod Layouts
