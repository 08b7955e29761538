-- Definitions used only by the contracts of private functions.
pub mod Ranges
