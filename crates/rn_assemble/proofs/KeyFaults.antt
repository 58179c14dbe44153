pub mod KeysOfPieces
pub mod KnownRows
pub mod LeastLacks
pub mod OverrideStands
pub mod PieceMethods
