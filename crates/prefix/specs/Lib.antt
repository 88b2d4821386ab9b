pub mod Bars
pub mod Prefix
