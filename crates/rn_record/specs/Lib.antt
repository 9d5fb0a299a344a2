pub mod RecordText
pub mod Writable
pub mod Named
pub mod Nets
pub mod Parts
