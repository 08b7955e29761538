-- Definitions that only the contracts of private functions use: the public contracts use the definitions of `pc_class`.
pub mod OverrideTests
pub mod Representing
