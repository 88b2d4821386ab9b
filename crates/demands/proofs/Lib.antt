-- Theorems about the definitions of the paper, a file each, over what a map is in plain terms (IsMap), and numbers and records at a place (MapNumbers, MapFields).
pub mod IsMap
pub mod MapBare
pub mod MapBytes
pub mod MapFields
pub mod MapLent
pub mod MapNumbers
pub mod MapOfSheet
pub mod MapValues
pub mod MapWritten
