-- What the proofs of several functions use.
mod Turns
mod Picking
mod Searching
-- The claims on orders.
pub mod Claims
