pub mod Ready
pub mod Labels
pub mod Lengths
