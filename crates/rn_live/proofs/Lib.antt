pub mod FindLemmas
pub mod GoodPlaces
pub mod HolderLemmas
pub mod ListingLemmas
pub mod MarkedNumbers
pub mod LiveMarks
pub mod StartLemmas
pub mod TokenLemmas
