pub mod Books
pub mod Texts
