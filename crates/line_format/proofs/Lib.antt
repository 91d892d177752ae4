mod WordByWord
pub mod LinesFitRows
