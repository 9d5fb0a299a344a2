pub mod NumberingLemmas
pub mod NetNumbers
pub mod GivenLemmas
