-- definitions
pub mod Bytes
pub mod Order
pub mod Text
pub mod Layout
pub mod Walk
-- worked examples
pub mod Examples
-- laws
pub mod laws
