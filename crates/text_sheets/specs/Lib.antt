pub mod FormsOfLines
