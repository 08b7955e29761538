-- Steps that are safe: the judgment, and its passage from step to step.
pub mod SafeSteps
pub mod Judgment
pub mod BoundLocals
pub mod LeadingSteps
pub mod InformingSteps
pub mod NestedSteps
pub mod Frames
pub mod Places
pub mod ModuleSteps
pub mod JoinedLocals
