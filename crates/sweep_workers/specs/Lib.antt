pub mod Asked
pub mod Answered
pub mod Working
pub mod Swept
