-- What contracts of private functions speak of. No public contract cites it.
pub mod TextLines
pub mod Encodings
pub mod FileUris
pub mod Uris
pub mod UriReferences
pub mod Maps
pub mod CatalogEntries
pub mod Sources
pub mod Following
pub mod ShownPaths
