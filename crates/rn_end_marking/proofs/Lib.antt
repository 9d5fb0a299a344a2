pub mod LinesInOrder
pub mod PouredLines
pub mod ShortLines
pub mod TokenTexts
