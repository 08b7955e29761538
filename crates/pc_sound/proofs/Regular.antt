-- Types whose dicts have int or str as key, and whose classes are as asked: each type of a label is one, and each type
-- that flows dynamically.
pub mod RegularParts
pub mod RegularTypes
pub mod RegularOperations
pub mod RegularCalls
pub mod RegularDisplays
pub mod RegularLabels
pub mod OwnTypes
pub mod OwnCodes
pub mod RegularStatements
pub mod RegularModules
pub mod RegularBindings
pub mod QuietReturns
pub mod RegularSuites
pub mod RegularFunctions
pub mod RegularInitializers
pub mod ExpressionFlows
pub mod BodyFlows
pub mod ModuleFlows
pub mod KeyedLabels
