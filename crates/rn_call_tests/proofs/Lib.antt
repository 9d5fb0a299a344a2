pub mod PlainInscriptions
