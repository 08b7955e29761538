pub mod Displays
pub mod Internal
pub mod JudgedOperations
