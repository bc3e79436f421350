-- What other files and crates cite of the definitions.
-- the orders
pub mod Positions
pub mod Picks
pub mod Arrangements
pub mod Packed
pub mod Digits
-- the search
pub mod Least
pub mod Counts
pub mod Rows
pub mod Answered
