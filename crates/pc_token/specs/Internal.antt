-- Definitions that only contracts of private functions use; the public contracts use the files beside this folder.
pub mod Candidates
pub mod LineReading
pub mod WordBytes
