-- Laws that the functions' proofs cite.
pub mod Undoing
pub mod Settling
