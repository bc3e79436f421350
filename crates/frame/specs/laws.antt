-- What other files and crates cite of the definitions.
pub mod Frames
pub mod Pointers
pub mod Wrappers
pub mod Tags
pub mod Objects
