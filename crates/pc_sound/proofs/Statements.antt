-- Statements: assignments, branches and loops lead to the environments of their exits.
pub mod WaysOut
pub mod SimpleStatements
pub mod LocalBinding
pub mod Branches
pub mod LoopHeads
pub mod LoopTurns
pub mod ForLoops
pub mod Iterations
pub mod Ranges
pub mod StatementNodes
pub mod ItemStores
pub mod FieldStores
