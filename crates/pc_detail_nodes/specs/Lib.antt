pub mod ByPlaces
pub mod NodesHeld
