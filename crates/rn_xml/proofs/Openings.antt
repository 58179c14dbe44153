-- Elements that are open, and what the tables hold of them.
pub mod OpenReaders
pub mod OpenSteps
pub mod OpenChildren
pub mod OpenRows
pub mod OpenNeeds
