pub mod Changing
pub mod Lists
pub mod Settings
pub mod Views
pub mod Walks
