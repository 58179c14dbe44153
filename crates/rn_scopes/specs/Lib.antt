pub mod UnitFiles
pub mod FreeNames
pub mod NameSets
pub mod ScopeEntries
