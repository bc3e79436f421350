-- definitions
pub mod Digits
pub mod Number
pub mod Program
-- claims
pub mod Claims
-- worked examples
pub mod Examples
