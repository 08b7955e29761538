pub mod Bindings
pub mod Mentions
pub mod Written
