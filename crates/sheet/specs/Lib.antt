pub mod Values
pub mod Within
pub mod Walks
pub mod Steps
