pub mod Rooms
pub mod Known
pub mod Steps
pub mod Days
pub mod RoomLimits
