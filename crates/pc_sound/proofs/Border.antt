-- The border: a value that passes its check is of its type.
pub mod TypedValues
pub mod LoadedAgain
pub mod Fitting
