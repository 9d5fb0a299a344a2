pub mod Following
pub mod LeastPlans
pub mod LeastPosts
pub mod LeastReady
