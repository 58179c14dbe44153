-- What modules consist of, gathered item by item, and rows of keys that get longer.
pub mod GatheredItems
pub mod AddedRows
pub mod FoundSegments
