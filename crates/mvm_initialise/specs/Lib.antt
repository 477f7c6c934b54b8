pub mod Words
pub mod Constants
pub mod Locks
pub mod Arrays
pub mod Arguments
