-- The pieces of a document are read in one way.
pub mod FirstCharacters
pub mod References
pub mod Values
pub mod UpToOneEnd
pub mod Markup
pub mod Contents
pub mod Names
pub mod Tags
