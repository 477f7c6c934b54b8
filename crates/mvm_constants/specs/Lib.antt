pub mod Index
pub mod NameMap
pub mod Search
pub mod Settling
