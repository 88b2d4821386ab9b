pub mod Digits
pub mod MapsSame
pub mod Same
pub mod Steps
