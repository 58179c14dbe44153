-- What contracts of private functions speak of: marks, row ends, searches and walks. No public contract cites it.
pub mod Marking
pub mod RowEnds
pub mod Searching
pub mod Walks
