-- What the proof of `read_number` uses.
mod Numbers
-- What the proof of `recorded` uses.
mod Loads
-- The claim of numbers.
pub mod Claims
