pub mod items
pub mod boxed
