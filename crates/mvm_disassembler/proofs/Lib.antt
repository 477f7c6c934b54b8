pub mod Cutting
pub mod SwitchLines
pub mod Chunks
pub mod Sets
pub mod Written
pub mod CodeText
pub mod Ahead
