pub mod Traces
pub mod Internal
