-- The rules of docs/RULES.md, a file a section, in their order. READING.md leads from their sentences to these definitions.
pub mod Words
pub mod Bytes
pub mod Refusals
pub mod Limits
pub mod Records
pub mod Sheets
pub mod Preempting
pub mod Places
pub mod Maps
pub mod Dispatch
pub mod Runs
pub mod Quoted
pub mod Printed
pub mod Computing
pub mod Figures
