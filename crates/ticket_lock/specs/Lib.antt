pub mod Totals
pub mod Line
pub mod Lock
pub mod Views
pub mod Claims
pub mod Plays
pub mod Rule
