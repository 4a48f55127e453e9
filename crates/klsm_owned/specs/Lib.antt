pub mod Owned
pub mod Trying
