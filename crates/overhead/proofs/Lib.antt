-- What the proofs of several functions use.
mod Turns
-- The claims on the report.
pub mod Claims
