-- The fault of a module text and its place.
pub mod TokenFaults
pub mod TextPlaces
