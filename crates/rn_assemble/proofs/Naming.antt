-- The names that components define, in the order of each one's first component.
pub mod KeptMembers
pub mod KnownKeys
pub mod PlacedComponents
pub mod LeftComponents
pub mod NamesInOrder
pub mod FirstPlaces
pub mod SortedPlaces
pub mod KeyByKey
