pub mod HeldTables
pub mod HeldLocals
