-- Laws of sessions that the functions' proofs cite.
pub mod BlockWords
pub mod Turns
pub mod Message
pub mod Same
pub mod Settle
pub mod Told
pub mod Feeding
pub mod Runs
pub mod Sealing
pub mod Costs
pub mod CostsOfFeeds
