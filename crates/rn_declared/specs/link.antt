pub mod Forms
pub mod SeenBefore
pub mod Sizes
pub mod Tables
