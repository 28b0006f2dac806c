-- The lemmas by which the exported functions are proved.
pub mod Codes
pub mod Finishes
pub mod Heads
