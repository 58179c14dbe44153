pub mod GroupedDigits
pub mod Links
pub mod Outlines
pub mod Spans
pub mod TokenNames
pub mod inside
