pub mod Graph
pub mod Ranks
pub mod Loops
pub mod inside
