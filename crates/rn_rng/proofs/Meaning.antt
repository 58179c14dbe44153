-- What RELAX NG makes of the XML of a module is the grammar of the module.
pub mod PlainNames
pub mod WrittenNames
pub mod NameClasses
pub mod Datatypes
pub mod Patterns
pub mod Grammars
pub mod SeveralMembers
pub mod Modules
pub mod PrintedSchemas
