pub mod Built
pub mod Chained
pub mod Found
pub mod FromBare
pub mod Inverse
pub mod Records
pub mod Steps
