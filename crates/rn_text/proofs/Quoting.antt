-- Literals written, and segments read.
pub mod WrittenLiterals
pub mod SegmentTexts
pub mod DelimitedRuns
pub mod SegmentContents
pub mod LiteralTokens
pub mod VerbatimTexts
pub mod SegmentReadings
pub mod SegmentEscapes
