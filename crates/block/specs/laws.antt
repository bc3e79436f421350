-- What other files and crates cite of the definitions.
pub mod Booleans
-- bytes
pub mod Fields
pub mod Writes
pub mod Order
pub mod Text
-- superblock and headers
pub mod Superblock
pub mod Headers
pub mod Total
pub mod Soundness
-- walks
pub mod Walks
pub mod Turns
pub mod FirstFit
pub mod WalkTo
pub mod Counting
pub mod Gathering
