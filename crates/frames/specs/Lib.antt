pub mod Words
pub mod Blocks
pub mod Master
pub mod Slave
pub mod Answers
pub mod Line
pub mod Accepted
pub mod Shapes
