mod Folds
mod MovedFaults
mod SameDeclarations
mod SameExpressions
mod SameInscriptions
mod SameFaults
mod SameMeaning
mod MigratedTexts
