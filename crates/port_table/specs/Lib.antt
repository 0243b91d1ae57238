pub mod Table
pub mod Seen
pub mod Tested
