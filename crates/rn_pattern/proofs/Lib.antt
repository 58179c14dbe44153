pub mod Matches
pub mod CanonicalForms
pub mod Ordered
pub mod Stores
pub mod DecidedByEach
