-- A second reading of the rules: answers worked out by a program that shares nothing with this one, and the same answers computed from the definitions.
pub mod Sheets
pub mod Maps
pub mod Runs
