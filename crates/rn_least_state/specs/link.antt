pub mod CommitsAt
