pub mod Counting
pub mod Drafts
pub mod Judging
pub mod Lines
pub mod Numbers
pub mod Pieces
pub mod Rows
pub mod Spelling
