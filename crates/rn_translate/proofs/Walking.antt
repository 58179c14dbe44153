-- The walk over the tables of a document: what is next, and what is left of the open elements.
pub mod TreeSteps
pub mod TreeTexts
pub mod OpenSteps
pub mod ChildSteps
pub mod RootSteps
pub mod ReadTables
