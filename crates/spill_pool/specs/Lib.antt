pub mod Faults
pub mod Meaning
pub mod Steps
pub mod Histories
pub mod Calls
pub mod Runs
pub mod Texts
