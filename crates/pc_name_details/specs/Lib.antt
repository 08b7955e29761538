pub mod Naming
pub mod Offered
pub mod Uses
