-- definitions
pub mod Dump
pub mod Files
