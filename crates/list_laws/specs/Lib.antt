pub mod Written
pub mod Order
