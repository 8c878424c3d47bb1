pub mod Causes
pub mod Payloads
pub mod Reservations
pub mod Files
pub mod Trips
pub mod History
pub mod Words
pub mod Texts
