-- Definitions used only by the contracts of private functions; public contracts cite the files beside this folder.
pub mod OperandPairs
