-- The parts that a text is cut into, each the longest that begins what is left.
pub mod Cuts
pub mod FirstParts
pub mod NameTokens
pub mod DelimitedFronts
pub mod BeforeBreaks
pub mod SoundPieces
