-- Lists of items.
pub mod EqualLemmas  -- lists that are equal item by item are one
pub mod ListLemmas  -- lists that are joined, and lists that are put in order
