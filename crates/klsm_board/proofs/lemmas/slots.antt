-- The parts as slots have them.
pub mod KindLemmas  -- what is said of a slot and what of the part in it
pub mod FlushLemmas  -- a flush, by its answer
pub mod SpyLemmas  -- a spy, by its answer
pub mod TakeLemmas  -- a take, by its answer
pub mod RefillLemmas  -- a refill, by its answer
pub mod StealLemmas  -- a steal, by its answer
pub mod SharingLemmas  -- a sharing, by its answer
