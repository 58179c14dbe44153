-- Bytes read and written, unions of bundles, and runs over them.
pub mod MovedBytes
pub mod BundleUnions
pub mod BroughtContributions
pub mod RefusedRuns
pub mod OneTold
pub mod Calls
