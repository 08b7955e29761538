-- The examples: the lawful labelling of each, its findings and its run.
pub mod AliasExample
pub mod AssignmentExample
pub mod BorderExample
pub mod DispatchExample
pub mod LoopExample
pub mod NarrowingExample
pub mod OrderExample
pub mod ExampleFindings
pub mod ExampleRuns
pub mod FindingLists
pub mod ClassFindings
