pub mod ClientNotHeld
