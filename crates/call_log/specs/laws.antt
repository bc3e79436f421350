-- What other files and crates cite of the definitions.
pub mod Records
pub mod Run
pub mod Written
