pub mod Blanks
pub mod Items
