pub mod Calls
pub mod Computed
pub mod Context
pub mod Labels
pub mod Lawful
pub mod Laws
pub mod Operations
pub mod Signatures
