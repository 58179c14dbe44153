-- What contracts of private functions speak of: references by numbers, kinds of forms, what lists hold, what is gathered and written. No public contract cites it.
pub mod Contents
pub mod DefinitionForms
pub mod DefinitionNumbers
pub mod FormKinds
pub mod Gathers
pub mod ListParts
pub mod MarkedElements
pub mod NodeKinds
pub mod ReferredNames
pub mod Repeats
pub mod SettlingOrder
pub mod StayingKinds
pub mod Writes
