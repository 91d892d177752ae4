pub mod DigitsReadBack
pub mod PartsNamed
pub mod RowReadsBack
pub mod CellsSoFar
pub mod DraftRows
pub mod FormJoins
pub mod SheetReadsBack
