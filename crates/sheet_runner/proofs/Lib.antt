pub mod RowsOfSheet
