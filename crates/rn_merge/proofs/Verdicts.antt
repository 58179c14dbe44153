-- The verdict of a set, and what follows of it.
pub mod SetVerdict
pub mod Clashes
pub mod LoneContributions
pub mod Schemas
pub mod NameEntries
pub mod EverySet
