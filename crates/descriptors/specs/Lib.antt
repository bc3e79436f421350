-- definitions
pub mod Descriptors
pub mod Layouts
-- claims
pub mod Claims
-- worked examples
pub mod Examples
-- laws
pub mod laws
