pub mod Values
pub mod Rounds
pub mod Inside
pub mod Searches
pub mod Lists
