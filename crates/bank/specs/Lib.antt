pub mod Lists
pub mod Cells
pub mod Chains
pub mod Banks
pub mod Turning
