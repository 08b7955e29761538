-- The heap: the record of a location, and the actions on it.
pub mod Heaps
pub mod SeenValues
pub mod Dicts
pub mod Fields
pub mod HeapActions
pub mod FurnishedHeaps
