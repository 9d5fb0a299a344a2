pub mod LeastLogs
pub mod ThreadSafety
