-- What other crates cite of the definitions.
pub mod Lists
pub mod Plain
