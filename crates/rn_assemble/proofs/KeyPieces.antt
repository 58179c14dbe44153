-- The pieces of a key: what a row has of each segment, and what is left of it.
pub mod RowOrder
pub mod RowParts
pub mod Runs
pub mod RowFacts
pub mod FoundPieces
pub mod LeftPieces
pub mod PiecesIn
pub mod RowSearch
pub mod OwnComponents
pub mod Marks
pub mod LackingPieces
pub mod LivePieces
