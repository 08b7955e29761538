pub mod NodesByPlace
pub mod Placed
pub mod PlacesMarked
pub mod WalkedLists
