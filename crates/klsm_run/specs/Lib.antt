-- The definitions, in the order in which they are best read.
pub mod ItemOrder  -- the item order
pub mod Content  -- contents, sorted lists, skipped items
pub mod Block  -- levels and lawful blocks
pub mod Capacity  -- how many items a run, and its store, can hold
pub mod Stores  -- how a run lies in its store; no public contract cites it but for a run on the heap
