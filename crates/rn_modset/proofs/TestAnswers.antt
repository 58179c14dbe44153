-- What the answers of tests and of comparisons say.
pub mod TruthValues
pub mod ComparedBytes
pub mod Orderings
