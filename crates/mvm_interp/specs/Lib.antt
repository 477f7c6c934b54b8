pub mod Names
pub mod Sound
pub mod Finishing
pub mod Waking
pub mod Linking
pub mod Opening
