-- What stands against a set, as it is found.
pub mod Occurrences
pub mod RefusalOrder
pub mod FoundPlaces
pub mod KeyFindings
pub mod Lacks
pub mod KnownSegments
pub mod UndefinedNames
pub mod Deduped
pub mod CountedMethods
pub mod LoopKeys
