-- Expressions: each form is safe if its parts are.
pub mod SimpleExpressions
pub mod LocalReads
pub mod NameReads
pub mod Conditions
pub mod Operators
pub mod Displays
pub mod Indexing
pub mod Forms
