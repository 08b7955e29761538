-- Definitions for the contracts of private functions; public contracts use the files beside this folder.
pub mod LastLine
pub mod CallForms
pub mod Items
pub mod Nodes
