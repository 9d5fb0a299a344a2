pub mod NumberLemmas
pub mod NumberedForms
pub mod GuardLemmas
pub mod DownlinkLemmas
