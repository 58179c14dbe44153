pub mod Limits
pub mod PrintedCharacters
pub mod Messages
pub mod JsonMessages
pub mod MessageTexts
pub mod inside
