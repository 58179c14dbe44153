pub mod Comparisons
pub mod Deliveries
pub mod FlatFaults
pub mod ModuleSets
pub mod JobResults
pub mod UnreachedNames
pub mod inside
