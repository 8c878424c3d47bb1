-- What the contracts of the replay cite.
pub mod Replies
