-- What the proofs of several functions use.
mod Shifts
mod Moves
mod Tests
-- What rests on the wrapper frames' laws, and other crates cite.
pub mod Objects
