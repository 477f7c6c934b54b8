pub mod Slots
pub mod Countable
pub mod Steps
pub mod Rules
pub mod StartList
pub mod Sound
