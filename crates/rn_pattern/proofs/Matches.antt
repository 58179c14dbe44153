-- What patterns match: the steps, canonical forms, opened forms and pairings keep it.
pub mod OpenedKeeps
pub mod Weaving
pub mod Products
pub mod Splits
pub mod Pairings
pub mod Compositions
pub mod StepsKeep
pub mod NamesKept
pub mod CanonicalKeeps
pub mod Validity
pub mod Pruned
pub mod Replacing
pub mod Alike
pub mod Ranked
pub mod Constructors
pub mod Meanings
