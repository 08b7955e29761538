pub mod AnnotatedNames
pub mod Internal
pub mod StatementsHeld
pub mod Touched
pub mod Untouched
pub mod Walks
