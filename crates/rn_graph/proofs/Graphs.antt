-- Graphs of numbered nodes, and the search along their edges.
pub mod Marking
pub mod BuiltRows
pub mod RowEnds
pub mod FirstLoop
pub mod Loops
pub mod Searches
