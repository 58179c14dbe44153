-- Which refusal is answered.
pub mod ReferenceRefusals
pub mod ReadModules
pub mod ExpandedModules
pub mod FirstRefusal
pub mod SetRefusal
pub mod CheckedModules
pub mod ShortenedSets
pub mod RefusedResults
