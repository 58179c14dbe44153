-- Other texts for the URIs of a grammar, in the same order: its canonical grammar has them too, and its spelling but where prefixes are bound.
pub mod RenamedDefinitions
pub mod KeptOrder
pub mod KnownUris
pub mod MappedLists
pub mod PrunedGrammars
pub mod CanonicalNames
pub mod CanonicalPatterns
pub mod CanonicalGrammars
pub mod RenamedEntries
pub mod RenamedMentions
pub mod RenamedPrefixes
pub mod WrittenPatterns
pub mod RenamedLines
