pub mod Frames
pub mod Values
pub mod Arguments
pub mod Code
pub mod Entries
pub mod Keys
pub mod Running
pub mod Found
