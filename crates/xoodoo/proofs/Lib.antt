-- What is proved of the definitions.
pub mod Planes
pub mod Chi
pub mod Theta
pub mod Bytes
pub mod WordBytes
pub mod Inverse
pub mod Walk
pub mod Turned
pub mod Nots
pub mod Known
pub mod Runs
pub mod BlockBytes
pub mod Gains
