-- What contracts of private functions and of conversions speak of. No public contract cites it.
pub mod Fields
pub mod Outcomes
