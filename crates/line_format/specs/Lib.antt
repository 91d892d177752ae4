pub mod Words
pub mod Columns
pub mod Values
pub mod LineCells
pub mod Lines
pub mod WorkedLines
