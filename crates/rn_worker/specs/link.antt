pub mod Plans
pub mod Posts
pub mod Ready
pub mod Seen
pub mod Views
