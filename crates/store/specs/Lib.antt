-- definitions
pub mod State
pub mod Calls
pub mod Opened
pub mod Step
-- claims
pub mod Claims
-- worked examples
pub mod Examples
-- laws
pub mod laws
