pub mod Bytes
pub mod Rows
pub mod Values
pub mod Body
pub mod Groups
pub mod Attempts
