-- Definitions that only the contracts of private functions use: the public contracts use the files beside this folder.
pub mod Absorbing
pub mod HeadFlow
pub mod Leaps
pub mod Numbered
pub mod Rebuilding
