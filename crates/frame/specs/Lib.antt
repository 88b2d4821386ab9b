pub mod Values
pub mod Framing
