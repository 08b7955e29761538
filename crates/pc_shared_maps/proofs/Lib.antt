pub mod ListsShared
pub mod Naming
pub mod SharedParts
