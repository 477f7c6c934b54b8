pub mod Reduced
pub mod Meanings
