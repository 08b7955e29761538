pub mod Faults
pub mod CheckWords
pub mod RunWords
pub mod Running
