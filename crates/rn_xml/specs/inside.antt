-- What contracts of private functions speak of. No public contract cites it.
pub mod Declared
pub mod Fields
pub mod Fronts
pub mod KnownTexts
pub mod NamedRows
pub mod OpenElements
pub mod OpenTables
pub mod Parents
pub mod Pieces
pub mod ReadDocuments
pub mod Readers
pub mod Rests
pub mod SeenPairs
pub mod TagTables
pub mod Undecoded
pub mod Units
pub mod WrittenAttributes
