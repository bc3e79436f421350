-- definitions
pub mod Overhead
-- claims
pub mod Claims
-- worked examples
pub mod Examples
-- laws
pub mod laws
