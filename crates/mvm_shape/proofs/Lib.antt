pub mod TextFacts
pub mod TextNumbers
pub mod Lowest
