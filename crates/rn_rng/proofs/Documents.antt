-- The canonical XML text is a document of XML whose infoset is the element that it was written for.
pub mod Escapes
pub mod Tags
pub mod Elements
pub mod Spaces
pub mod Bytes
pub mod Legal
pub mod Whole
pub mod Modules
