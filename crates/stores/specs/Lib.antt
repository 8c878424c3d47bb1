pub mod Chains
pub mod Filed
pub mod Stores
