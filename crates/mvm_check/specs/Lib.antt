pub mod Starts
pub mod Operands
pub mod Locals
pub mod Instructions
pub mod Check
pub mod Sound
