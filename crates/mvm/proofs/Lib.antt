pub mod Characters
pub mod Faults
pub mod CommandNames
pub mod Written
pub mod Complete
pub mod Locking
pub mod Attempts
