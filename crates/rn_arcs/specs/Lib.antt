pub mod link
pub mod Demanded
pub mod FitInscriptions
pub mod Places
