-- Laws about the paper's definitions, an idea a file. Nothing here is a definition to believe; each law would fail if a definition said something else.
pub mod Tests
pub mod Doubles
pub mod Each
pub mod Least
pub mod Greatest
pub mod Lists
pub mod Tables
pub mod Relations
pub mod Levels
pub mod Rounding
pub mod Nests
pub mod Chains
pub mod Layouts
