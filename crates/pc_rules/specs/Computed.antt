-- The rules of expressions as programs compute them, the findings in the order of a walk, and the inputs and results of
-- programs. Nothing here has to be believed: the laws tie it to the rules in the files beside this folder.
pub mod TypingStates
pub mod Expressions
pub mod Findings
pub mod ModuleParents
pub mod Ranges
pub mod Signatures
pub mod Standing
