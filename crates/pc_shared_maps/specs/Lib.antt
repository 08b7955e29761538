pub mod NameMaps
pub mod SharedLists
pub mod SharedMaps
