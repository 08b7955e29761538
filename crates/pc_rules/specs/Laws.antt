-- Laws on the rules of expressions: properties of every lawful labelling.
pub mod ListTests
pub mod WellFormed
