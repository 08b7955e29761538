pub mod Cases
pub mod Cutting
pub mod Joined
