pub mod Rows
pub mod Switches
pub mod Opcodes
pub mod Readers
pub mod Insns
