pub mod SeenForms
pub mod SightLemmas
pub mod ConditionLemmas
pub mod CallLemmas
pub mod TransitionLemmas
pub mod NetLemmas
pub mod CountedLemmas
