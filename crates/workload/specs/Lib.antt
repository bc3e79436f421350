-- definitions
pub mod Generator
pub mod Choice
pub mod Traffic
-- claims
pub mod Claims
-- worked examples
pub mod Examples
