pub mod Findings
pub mod Internal
pub mod Unreached
