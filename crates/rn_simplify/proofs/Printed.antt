-- What printing the canonical grammar of a set comes to: one verdict at most, and a text that is read back and printed again.
pub mod OneVerdict
pub mod PrintedAgain
pub mod PrintedSets
