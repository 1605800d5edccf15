pub mod Rows
pub mod Format
pub mod Meaning
pub mod Kinds
pub mod Laws
