pub mod SlotRows
pub mod PutAtGap
pub mod SlotCalls
pub mod SlotsByLoop
pub mod SlotOfNumber
