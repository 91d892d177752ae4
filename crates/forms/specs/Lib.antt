pub mod Refusals
pub mod Results
