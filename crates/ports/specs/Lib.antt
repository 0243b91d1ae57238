pub mod Lent
pub mod Arriving
pub mod Answering
pub mod Reading
pub mod Filling
pub mod Ticking
pub mod Sinks
pub mod Inside
