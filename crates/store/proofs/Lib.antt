-- What the proofs of several functions use.
mod Tags
mod Texts
mod Fresh
mod Carving
mod Merging
-- Release: what is left to be freed, one free, and the pass over all blocks.
mod Remains
mod Freeing
mod Sweeping
mod Runs
mod Gathering
-- The claims of single calls; that of the type check before a cast.
pub mod Claims
pub mod Casts
pub mod Lent
