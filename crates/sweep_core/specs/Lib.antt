pub mod Event
pub mod Run
