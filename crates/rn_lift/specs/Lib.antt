pub mod Edits
pub mod Lifts
pub mod LiftedModules
pub mod Origins
pub mod StandIns
pub mod inside
