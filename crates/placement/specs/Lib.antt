-- definitions
pub mod Orders
pub mod Placement
-- claims
pub mod Claims
-- worked examples
pub mod Examples
-- laws
pub mod laws
