-- Definitions for the contracts of private functions; public contracts use the files beside this folder.
pub mod Changes
pub mod DisplayFaults
pub mod Keys
