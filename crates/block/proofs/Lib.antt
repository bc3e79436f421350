-- What the proofs of several functions use.
mod Runs
mod Headers
mod Counting
-- Demand 2.
pub mod Claims
