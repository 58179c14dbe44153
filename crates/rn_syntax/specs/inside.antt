-- What contracts of private functions speak of: pieces of productions, readings, walks. No public contract cites it.
pub mod Rules
pub mod Follow
pub mod Sequence
pub mod Declaring
pub mod Including
pub mod Readers
pub mod Itemizing
pub mod Modular
pub mod Stopping
pub mod Numbered
pub mod Borrowed
pub mod PatternEnds
pub mod Boxes
