-- definitions
pub mod Frame
pub mod Pointers
pub mod Tags
-- laws
pub mod laws
