-- Laws on the labelling of a module: it has exactly one, a walk agrees with it, A1 is found exactly at the dynamic
-- flows under it, and the types that are noted are those under it.
pub mod Agreement
pub mod Flows
pub mod Labellings
pub mod Modules
pub mod Names
pub mod Types
pub mod Walks
