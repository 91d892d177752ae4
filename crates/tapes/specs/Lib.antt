pub mod Causes
pub mod Logs
