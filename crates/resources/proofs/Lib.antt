pub mod Tenancies
pub mod Changes
pub mod Histories
