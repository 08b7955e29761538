pub mod Faults
pub mod Fronts
pub mod Grammar
pub mod Machine
