pub mod Rounds
pub mod Inside
pub mod Told
pub mod Lines
pub mod Walks
pub mod Demand
pub mod Bytes
