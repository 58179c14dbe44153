pub mod LiftedSets
pub mod SharedFronts
pub mod Schemas
mod ReachedMarks
