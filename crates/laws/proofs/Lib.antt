-- Laws, each stated once.
pub mod Words
pub mod Rotation
pub mod Bytes
pub mod Lists
pub mod Adding
pub mod Blocks
pub mod BlocksBack
pub mod Clauses
