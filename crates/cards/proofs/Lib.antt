pub mod HeldOverFirst
pub mod CardCalls
pub mod ClientOverFirst
