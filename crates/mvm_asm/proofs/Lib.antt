pub mod Faults
pub mod Cuts
pub mod Codes
pub mod Overs
