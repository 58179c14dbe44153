-- References by names and by the numbers of keys.
pub mod JoinedReferences
pub mod WrittenReferences
pub mod MarkedReferences
pub mod FoundReferences
pub mod LeastUndefined
pub mod GatheredReferences
pub mod KeyNumbers
pub mod NumberedReferences
pub mod NamedLists
pub mod KeyNames
pub mod ListMembers
pub mod LeastKeys
pub mod MarkedPlaces
pub mod SetMarks
pub mod DefinedMarks
pub mod KeyOrders
pub mod DefinitionNumbers
