-- Characters, their runs, and the words made of them; lists of characters, and tests of them.
pub mod TruthValues
pub mod EqualLists
pub mod AppendedLists
pub mod CharacterRuns
pub mod HexDigits
pub mod KeywordSpellings
pub mod XmlNames
