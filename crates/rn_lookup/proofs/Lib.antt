mod GivenLemmas
pub mod OwnLemmas
mod TableLemmas
