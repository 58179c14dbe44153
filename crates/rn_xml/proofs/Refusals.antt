-- What a text isn't that a reader refuses.
pub mod OneReading
pub mod RefusedFronts
pub mod RefusedNames
pub mod RefusedReferences
pub mod RefusedValues
pub mod RefusedMarkup
pub mod RefusedDeclarations
pub mod RefusedCharacters
pub mod RefusedAttributes
pub mod RefusedTagNames
pub mod RefusedTags
pub mod RefusedEndTags
pub mod RefusedDocuments
