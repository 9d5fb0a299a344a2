pub mod Bindings
pub mod Closings
pub mod Counting
pub mod Ends
pub mod Readying
pub mod Replaying
pub mod Workloads
