pub mod Annotated
pub mod Joined
