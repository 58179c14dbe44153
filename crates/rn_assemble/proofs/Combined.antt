-- What components are joined to, and what expanding them comes to.
pub mod Depth
pub mod Combinations
pub mod JoinedProperties
pub mod PlainComponents
pub mod OneModule
