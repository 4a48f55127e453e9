-- Hands with the own part, the shared one and a victim's.
pub mod EventLemmas  -- what events leave of them
pub mod PossibleLemmas  -- what a member knows of the parts in its hand
pub mod WorkLemmas  -- the mark and the key in work, by a list
pub mod CommitLemmas  -- which events may be committed
