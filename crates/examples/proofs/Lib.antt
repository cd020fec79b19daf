pub mod Same
pub mod Table
pub mod Files
pub mod Rooms
pub mod RefusedPart
pub mod Contention
pub mod SoundTable
pub mod HandedOver
