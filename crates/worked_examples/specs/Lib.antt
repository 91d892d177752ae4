pub mod CaseWords
pub mod CaseTable
