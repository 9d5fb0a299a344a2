pub mod Migrated
pub mod Records
pub mod Laws
