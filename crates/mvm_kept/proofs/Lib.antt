pub mod Growing
pub mod AtOnce
pub mod Turning
