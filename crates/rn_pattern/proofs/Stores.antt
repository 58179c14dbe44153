-- Stores of nodes, and the trees that their ids stand for.
pub mod NodeTrees
pub mod Gathering
pub mod Copied
pub mod Hashing
pub mod Interning
pub mod ClassTrees
pub mod ShownTrees
pub mod Sharing
