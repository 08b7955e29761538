pub mod Annotations
pub mod Bases
pub mod Listed
pub mod ModuleOutlines
pub mod Named
pub mod Text
pub mod WellFormed
pub mod Internal
