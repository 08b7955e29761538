pub mod HeldSignatures
pub mod LiteralPlaces
pub mod MembersHeld
pub mod NamesBound
pub mod SignatureWalks
