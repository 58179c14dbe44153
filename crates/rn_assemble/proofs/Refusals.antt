-- Refusals of sets: one first refusal at most, and what holds where none stands.
pub mod NoLeast
pub mod NoRefusal
pub mod OneSet
pub mod OneRefusal
pub mod TextFaults
