-- A source has one token list, or one fault.
pub mod OneTokenList
pub mod OneFaultPlace
pub mod TokensOrFault
pub mod CutLexemes
