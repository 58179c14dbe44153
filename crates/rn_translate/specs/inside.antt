-- What contracts of private functions speak of. No public contract cites it.
pub mod TermNames
pub mod Meanings
pub mod SignTokens
pub mod DraftTokens
pub mod Walks
pub mod UriTables
pub mod ElementsMeant
pub mod OpenLevels
pub mod PrintedTerms
pub mod NeededPrefixes
pub mod PrintedSchemas
