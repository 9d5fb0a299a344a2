pub mod link
pub mod MarkTexts
