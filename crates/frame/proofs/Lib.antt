pub mod Pins
pub mod Framing
