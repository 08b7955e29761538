pub mod AnnTexts
pub mod CalledParameters
pub mod FieldMaps
pub mod FirstNamed
pub mod Held
pub mod Results
pub mod TypeTexts
