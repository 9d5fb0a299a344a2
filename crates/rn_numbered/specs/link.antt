pub mod NumbersFound
pub mod Parts
