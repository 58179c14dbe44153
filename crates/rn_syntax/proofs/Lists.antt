-- Lists: what is left of one from an index on, and that two, one behind the other, are empty where both are.
pub mod RestOfLists
pub mod EmptyLists
