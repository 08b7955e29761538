-- The rules of statements and modules as programs compute them, in the order of a walk. Nothing here has to be
-- believed: the laws tie it to the rules in the files beside this folder.
pub mod DynamicFlows
pub mod Modules
pub mod Statements
