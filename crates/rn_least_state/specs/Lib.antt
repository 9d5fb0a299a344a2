pub mod link
pub mod CommitsAt
pub mod LeastStates
