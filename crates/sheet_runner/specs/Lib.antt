pub mod SheetRuns
