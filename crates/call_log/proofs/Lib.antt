-- What the proofs of several functions use.
mod Reading
mod Texts
mod Turns
mod Exact
-- The claims of logs.
pub mod Claims
