pub mod HeldSides
pub mod Held
pub mod CardQueues
pub mod CardBounds
