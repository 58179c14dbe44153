pub mod Inputs
pub mod Jobs
pub mod inside
