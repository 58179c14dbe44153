-- What the grammar sees of tokens: keywords, symbols, and the tokens of a source.
pub mod KeywordTexts
pub mod SourceTokens
pub mod KeywordsAndSymbols
pub mod PieceTokens
