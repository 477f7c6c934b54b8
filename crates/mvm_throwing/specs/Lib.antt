pub mod Throwing
pub mod Unwinding
