pub mod Unbound
pub mod TextSets
pub mod TextMaps
pub mod Meanings
pub mod TwoArguments
