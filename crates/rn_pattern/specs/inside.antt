-- What contracts of private functions speak of: nodes of a store as a list and in a table, their hashes, counts and equality, the parts of a pattern that
-- the order compares, members of lists and parts of name classes. No public contract cites it.
pub mod Stored
pub mod Shown
pub mod PartViews
pub mod Table
pub mod Compared
pub mod Lists
pub mod Reduced
pub mod NameParts
pub mod Hashing
pub mod Count
pub mod HeldText
