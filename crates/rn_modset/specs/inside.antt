-- What contracts of private functions speak of. No public contract cites it.
pub mod Merges
pub mod Neighbours
pub mod Headers
pub mod Digested
pub mod Insertion
