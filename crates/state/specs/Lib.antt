pub mod Blank
pub mod Channels
pub mod Fresh
pub mod Setters
pub mod Sound
pub mod Testing
pub mod Views
