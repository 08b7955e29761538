pub mod Internal
pub mod SignaturesHeld
