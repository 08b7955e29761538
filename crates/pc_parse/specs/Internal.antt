-- Definitions that only contracts of private functions use; the public contracts use the files beside this folder.
pub mod Annotations
pub mod Classes
pub mod ListedTokens
pub mod Modules
pub mod Signatures
pub mod Suites
pub mod WholeTrees
