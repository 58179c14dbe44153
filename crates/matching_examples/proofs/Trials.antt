-- Documents tried by computing.
pub mod Computed
pub mod Accepting
pub mod AcceptedParts
pub mod Accepted
pub mod Tried
