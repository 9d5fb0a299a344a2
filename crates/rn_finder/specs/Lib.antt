pub mod First
pub mod Idle
pub mod Lesser
pub mod Premises
pub mod Starting
pub mod Straight
