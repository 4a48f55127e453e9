-- What a running world keeps, and each step that it takes.
pub mod HomesLemmas  -- what is at home
pub mod NewLemmas  -- a new world
pub mod InsertionLemmas  -- how many items a list inserts
pub mod WorkLemmas  -- the key that a list works at
pub mod KeptLemmas  -- after a step that commits nothing
pub mod KeptCommitLemmas  -- after a commit
pub mod TakenLemmas  -- each kind of step, taken
pub mod CommitTakenLemmas  -- each event, taken
pub mod PlaceLemmas  -- where parts and lists lie
pub mod MemoryLemmas  -- a step that finds no memory
pub mod LiveListLemmas  -- the live items as one list
