pub mod link
pub mod Faults
pub mod Grammar
pub mod Meaning
pub mod Rules
pub mod Texts
pub mod Words
