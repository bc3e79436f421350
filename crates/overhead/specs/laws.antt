-- What other files and crates cite of the definitions.
pub mod Padding
pub mod Totals
pub mod Rows
pub mod Answered
