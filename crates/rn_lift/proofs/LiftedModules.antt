-- The modules that are made: of what the plan says, and of files.
pub mod InPlan
pub mod InAccounts
pub mod OfFiles
pub mod PlainFiles
pub mod BringingTexts
