-- Tests on lists of items, and lists that are merged.
pub mod RestLemmas  -- what a loop has seen of a list
pub mod ConditionLemmas  -- the conditions of events
pub mod TakeConditionLemmas  -- the condition of a Take
pub mod PlacingLemmas  -- merging, and taking items out
