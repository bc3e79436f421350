-- What other files and crates cite of the definitions.
-- parts of several calls
pub mod Refusals
pub mod Opening
pub mod Entries
pub mod TagReading
pub mod Access
pub mod Answers
pub mod Distances
pub mod Casts
pub mod Total
pub mod Shapes
-- each call
pub mod SetUp
pub mod Allocate
pub mod Move
pub mod Load
pub mod Store
pub mod Fill
pub mod Copy
pub mod Compare
pub mod CopyText
pub mod Free
pub mod Release
pub mod Sweep
pub mod Tally
-- objects of no bytes
pub mod Empty
