-- Definitions used only by the contracts of private functions.
pub mod Entry
pub mod ModuleWalk
pub mod StatementWalk
pub mod Walked
