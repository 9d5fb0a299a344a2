pub mod link
pub mod TransitionVars
