pub mod Bits
pub mod Check
pub mod Distance
