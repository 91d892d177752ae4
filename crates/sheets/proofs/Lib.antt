mod RowApart
mod PairRuleHolds
pub mod DigitValues
mod FrontDigits
mod PairsInside
mod ReadFromOwnBytes
mod FirstWrongByte
mod OnePairMore
