-- What contracts of private functions speak of: what is written, and what values of the code stand for. No public contract cites it.
pub mod Unread
pub mod Views
pub mod Writes
