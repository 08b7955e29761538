pub mod FirstFlows
pub mod FirstTypes
pub mod GivenTypes
pub mod Noted
pub mod SameCode
pub mod Taken
pub mod TypesOfFlows
