-- What stands in the place of parts: for each part of a grammar, and for those that lead to a place of the plan.
pub mod EachPart
pub mod OfPlaces
