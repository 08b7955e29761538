pub mod InitializerStanding
pub mod ItemWalks
pub mod MethodsSeen
