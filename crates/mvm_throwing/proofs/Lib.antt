pub mod Sufficing
pub mod Handled
pub mod Passes
pub mod Going
pub mod Steps
pub mod Operands
pub mod Missing
