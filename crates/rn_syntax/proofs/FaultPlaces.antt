-- Where faults stand: each kind by itself, the first of all, and one fault at most.
pub mod OneFault
pub mod FaultKinds
pub mod NoRuleBroken
pub mod TreeFaults
pub mod FirstPlaces
pub mod OpenBrackets
pub mod RisingPlaces
