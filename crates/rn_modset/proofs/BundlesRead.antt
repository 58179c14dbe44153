-- Bundles read entry by entry, in one way.
pub mod EntryByEntry
pub mod DistinctBundles
