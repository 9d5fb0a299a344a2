pub mod Finders
pub mod GoingOn
pub mod Keeping
pub mod Making
pub mod Offers
pub mod Parts
pub mod Takings
pub mod Testing
