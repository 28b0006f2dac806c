-- What a reader must believe of the exported functions.
pub mod Capi
pub mod Back
