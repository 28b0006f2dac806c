-- Definitions that several crates share.
pub mod Words
pub mod Lists
pub mod Blocks
