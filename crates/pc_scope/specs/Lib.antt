pub mod Bindings
pub mod Expressions
pub mod Reach
pub mod Reserved
pub mod Resolution
pub mod Tables
pub mod Internal
pub mod ModuleScopes
