-- The effective modules of a set, found by a walk and by name.
pub mod SlicePlaces
pub mod SetWalk
pub mod WalkSteps
pub mod NameSearch
