-- What a reader must believe of sessions.
pub mod Cyclist
pub mod Ups
pub mod Shares
pub mod Numbers
pub mod Refusals
pub mod Calls
pub mod Feed
