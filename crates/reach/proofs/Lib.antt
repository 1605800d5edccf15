pub mod Listing
pub mod Marking
pub mod Levels
pub mod Following
