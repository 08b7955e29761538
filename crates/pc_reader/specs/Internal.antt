-- Definitions that only contracts of private functions use; the public contracts use the files beside this folder.
pub mod Brackets
pub mod Literals
pub mod Expressions
pub mod Links
pub mod NoneTests
pub mod Operands
pub mod StatesAhead
pub mod FixedWords
