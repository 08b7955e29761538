pub mod CodingComments
pub mod LastLine
pub mod ListSearch
pub mod SourceRefusals
pub mod Taking
