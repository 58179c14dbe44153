-- The order of patterns, and lists in order.
pub mod InOrder
pub mod Orders
pub mod TotalOrder
pub mod Ascending
pub mod Sorting
pub mod Within
pub mod SortedBy
pub mod SortedMembers
pub mod Equal
pub mod Stepwise
pub mod ByHeads
pub mod PatternKinds
