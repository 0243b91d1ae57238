pub mod Period
pub mod Inside
pub mod Once
