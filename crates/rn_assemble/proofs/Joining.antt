-- Components of a key joined to its definition.
pub mod SomeCombination
pub mod ResolvedLists
pub mod ConstantPatterns
pub mod PieceBodies
pub mod MembersSoFar
pub mod KeyPatterns
pub mod DefinedNames
pub mod DistinctNames
pub mod KeyedDefinitions
pub mod FirstMembers
pub mod SettlingOrders
