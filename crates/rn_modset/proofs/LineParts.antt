-- Lines cut into their fields.
pub mod ByteCuts
pub mod LineFields
pub mod HeaderLines
pub mod NamesAreText
