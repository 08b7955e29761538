pub mod ByCode
pub mod Listed
pub mod Made
pub mod OverridesHeld
