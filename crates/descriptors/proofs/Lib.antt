-- What the proofs of several functions use.
pub mod Turns
-- The claims on lists and layouts.
pub mod Claims
