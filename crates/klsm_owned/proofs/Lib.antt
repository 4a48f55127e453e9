pub mod ListLemmas
pub mod OwnedLemmas
