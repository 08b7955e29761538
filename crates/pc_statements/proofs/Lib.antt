pub mod FoundStores
pub mod Iterating
pub mod StoredByHead
pub mod Storing
