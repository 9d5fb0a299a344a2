mod BusyLemmas
mod ListedLemmas
mod OrderLemmas
mod PlaceLemmas
mod PutLemmas
mod RefreshLemmas
pub mod RunningLemmas
mod StartLemmas
mod SumLemmas
mod TouchedLemmas
