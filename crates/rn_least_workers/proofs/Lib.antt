pub mod LeastSeen
pub mod ThreadSafety
