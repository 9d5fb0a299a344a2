pub mod Given
pub mod NodeValues
