pub mod CellTexts
pub mod PackedParts
pub mod PartLists
pub mod WrittenRows
pub mod Drafts
pub mod WorkedSheet
pub mod RowLimits
