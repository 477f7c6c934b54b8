pub mod Texts
pub mod Alone
pub mod Running
pub mod Status
pub mod Report
pub mod Refusals
pub mod Commands
pub mod Launch
