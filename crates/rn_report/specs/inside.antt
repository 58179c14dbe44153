-- What contracts of private functions speak of. No public contract cites it.
pub mod Messages
pub mod JsonMessages
