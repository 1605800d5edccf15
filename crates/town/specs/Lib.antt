pub mod Corners
pub mod Layout
pub mod Town
pub mod Writing
pub mod Meaning
pub mod Changes
pub mod Laws
