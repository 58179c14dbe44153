-- Bundles as they are spelled.
pub mod AnyWithdrawal
pub mod SpelledBundles
