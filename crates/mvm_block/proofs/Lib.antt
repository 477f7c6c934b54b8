pub mod Tests
pub mod Ranges
pub mod Lengths
pub mod Found
pub mod Closing
pub mod Switches
