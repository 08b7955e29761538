pub mod Agreed
pub mod Breaking
pub mod CheckedModules
pub mod Entered
pub mod FlowTexts
pub mod ModuleBodies
pub mod Subsuming
pub mod Walked
