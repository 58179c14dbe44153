-- The texts of patterns and grammars, and how they are written.
pub mod LineTexts
pub mod NodeTexts
pub mod PartTexts
pub mod PatternTexts
pub mod SourceTexts
pub mod NormalSource
pub mod Writing
pub mod FinishedText
pub mod OpenAtOnce
pub mod Members
pub mod GatheredTexts
pub mod GatheredForms
