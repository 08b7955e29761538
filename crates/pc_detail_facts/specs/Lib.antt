pub mod Annotated
pub mod Callees
pub mod Held
