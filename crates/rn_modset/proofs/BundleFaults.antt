-- What is wrong with bytes that are no bundle: one fault.
pub mod RefusedCalls
pub mod NextLine
pub mod OneBundleFault
pub mod BundleOrFault
