-- Encodings, and the declarations of them.
pub mod DeclarationParts
pub mod DecodedBytes
pub mod MovedDeclarations
pub mod DeclaredEncodings
pub mod NamedEncodings
pub mod DeclarationVersions
pub mod DeclarationFields
pub mod DecodedTexts
