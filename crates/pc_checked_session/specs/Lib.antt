pub mod Found
pub mod Published
pub mod Status
