pub mod Bounds
pub mod CallForms
pub mod Defaults
pub mod Steps
