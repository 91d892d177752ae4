pub mod FormsJoin
pub mod LineByLine
