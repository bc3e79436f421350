-- definitions
pub mod Heap
-- claims
pub mod History
pub mod Tidiness
pub mod Release
pub mod Empty
pub mod Commuting
-- worked example
pub mod Examples
-- laws
pub mod laws
