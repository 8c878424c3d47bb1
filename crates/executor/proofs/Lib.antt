pub mod Booking
