pub mod Fuel
pub mod FuelExpressions
pub mod FuelModules
pub mod FuelStatements
pub mod PlainRuns
