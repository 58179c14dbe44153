-- Grammars of faultless modules are well formed, and can be written.
pub mod GoodComponents
pub mod GoodPatterns
pub mod GoodTrees
pub mod Terminals
pub mod ComponentExcepts
pub mod FlatModules
