pub mod Details
pub mod Mapped
pub mod Places
pub mod Sentences
pub mod Shortened
pub mod Shown
