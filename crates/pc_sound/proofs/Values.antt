-- Values of types: joins, narrowing, flows, and which types have values.
pub mod Flows
pub mod SeveralFlows
pub mod ValuesFlow
pub mod Joins
pub mod Narrowing
pub mod UnionMembers
pub mod InstanceTests
pub mod TupleMembers
pub mod Differences
pub mod Requirements
pub mod RequiredClasses
pub mod Inhabitants
pub mod ReadTypes
