pub mod Rows
pub mod Instructions
pub mod Groups
pub mod Attempt
pub mod State
pub mod Step
pub mod Attempts
