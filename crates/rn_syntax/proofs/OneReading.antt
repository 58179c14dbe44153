-- Tokens are one tree at most, kind by kind.
pub mod OneClass
pub mod OnePattern
pub mod OneTree
