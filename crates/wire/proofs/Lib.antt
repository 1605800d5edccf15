pub mod Puts
pub mod Pairs
pub mod Rounds
pub mod Words
pub mod Reading
pub mod Room
