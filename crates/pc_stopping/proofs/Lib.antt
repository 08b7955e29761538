pub mod Passed
pub mod Earlier
pub mod HeldNames
pub mod Clashes
pub mod ClashingItems
pub mod AllStops
