pub mod Prices
pub mod Sides
pub mod Bounds
pub mod Rows
pub mod Ranks
pub mod Lots
pub mod RanksLemmas
pub mod OrderLimits
