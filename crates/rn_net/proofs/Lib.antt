pub mod Names
mod Steps
mod Sorts
mod Rows
mod KindPhrases
mod ConstantPhrases
mod Fronts
mod Openings
mod InscriptionReading
mod DeclarationPhrases
mod NetPhrases
mod Systems
mod Headers
mod Settling
mod Refusing
mod OnePhrase
mod OneSystem
mod Notations
