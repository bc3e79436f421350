-- definitions
pub mod Records
pub mod Reader
pub mod Run
pub mod Text
pub mod Buffer
pub mod Written
-- claims
pub mod Claims
-- worked examples
pub mod Examples
-- laws
pub mod laws
