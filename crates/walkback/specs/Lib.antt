-- What a reader must believe of walking back.
pub mod Steps
pub mod Walk
pub mod Costs
