pub mod Doctypes
