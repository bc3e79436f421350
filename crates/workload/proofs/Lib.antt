-- What the proofs of several functions use.
mod Choices
mod Pointers
mod Writers
mod Draws
-- What holds of every workload.
mod Runs
mod Premise
-- The claims.
pub mod Claims
