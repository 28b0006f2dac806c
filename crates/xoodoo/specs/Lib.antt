-- What the crate promises, in definitions.
pub mod Xoodoo
pub mod Words
pub mod Frame
pub mod Calls
