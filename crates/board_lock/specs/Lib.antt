pub mod Totals
pub mod Story
pub mod Views
pub mod Rule
pub mod Plays
pub mod Pass
pub mod Closed
