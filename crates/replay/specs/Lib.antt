-- definitions
pub mod Program
