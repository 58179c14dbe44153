-- The shape of canonical forms, and what they keep.
pub mod Fixed
pub mod KeptRules
pub mod KeptByForms
pub mod CanonicalForm
pub mod ListsWithin
pub mod Settled
pub mod BuiltCanonical
pub mod NamesTogether
