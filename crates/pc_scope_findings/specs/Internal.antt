-- Definitions that only the contracts of private functions use: the public contracts use the files beside this folder.
pub mod FindingLists
pub mod SoughtParts
