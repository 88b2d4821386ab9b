pub mod Ends
pub mod Found
pub mod Nests
pub mod Placing
pub mod Values
