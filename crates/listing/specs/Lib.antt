pub mod Digits
pub mod Inside
pub mod Lines
pub mod Reading
pub mod Writing
