pub mod Monitors
pub mod Returned
pub mod Returns
