pub mod Adding
pub mod Binding
pub mod Classes
pub mod Equations
pub mod Rests
