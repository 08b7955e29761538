pub mod Found
pub mod Holdings
pub mod Members
