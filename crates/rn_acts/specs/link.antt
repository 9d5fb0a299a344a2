pub mod Acted
pub mod Acting
pub mod ChangeRows
