pub mod Odd
pub mod Reach
pub mod Searching
