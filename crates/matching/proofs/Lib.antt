pub mod PartsFall
pub mod WeightOfQueues
pub mod OutcomeCases
pub mod WeightFalls
pub mod LoopTurns
pub mod ReachByChains
pub mod SweepByRecord
