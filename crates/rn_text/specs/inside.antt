-- What contracts of private functions speak of. No public contract cites it.
pub mod Ascii
pub mod PartEnds
pub mod Writing
pub mod Reading
