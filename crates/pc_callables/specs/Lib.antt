pub mod MembersHeld
pub mod SignaturesRead
