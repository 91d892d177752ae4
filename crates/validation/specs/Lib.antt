pub mod Cells
pub mod Combinations
pub mod Entries
pub mod Changes
pub mod Removals
pub mod CellRanges
