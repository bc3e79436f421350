-- What other files and crates cite of the definitions.
-- the list
pub mod Lookups
pub mod Fields
pub mod Lists
-- which type has which
pub mod Layouts
-- the check, test by test, and what it refuses
pub mod Checks
pub mod Bad
