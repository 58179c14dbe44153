mod ExceptedParts
mod ListsWithOneMore
mod LiftedModules
mod StandIns
