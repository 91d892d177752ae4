pub mod ReversedLists
pub mod RowsByRank
pub mod EachRowPasses
pub mod NoneAboveHighest
