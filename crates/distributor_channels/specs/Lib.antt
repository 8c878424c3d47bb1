pub mod Meaning
pub mod Steps
pub mod Runs
pub mod Histories
pub mod Naming
pub mod Calls
