mod Fuel
pub mod SaidOfFaults
pub mod CheckReading
pub mod CheckPlain
pub mod RunReading
pub mod RunPlain
