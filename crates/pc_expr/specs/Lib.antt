pub mod Internal
pub mod Typing
pub mod Ways
