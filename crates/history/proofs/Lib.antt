-- the layout of an image
pub mod Gaps
mod Looks
mod Rendered
mod Focus
mod Bodies
mod Places
mod Walking
mod Counting
mod Gathering
mod Fresh
mod Fitting
mod Freeing
pub mod Image
-- heap and table
mod Heap
mod Table
-- demand 3
mod Invariant
mod Steps
mod Releases
mod Orders
pub mod Theorem
-- what a free does to plain objects, for other crates
pub mod PlainFrees
-- the worked example's claim
pub mod Claimed
