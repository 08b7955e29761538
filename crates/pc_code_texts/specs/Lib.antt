pub mod Findings
pub mod Refusals
