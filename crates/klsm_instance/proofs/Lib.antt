-- Lemmas.
pub mod BitLemmas  -- the bits of a selection
pub mod SumLemmas  -- sums over the things selected
pub mod BoundLemmas  -- no completion of a node is above its bound
pub mod NodeLemmas  -- nodes, their children, and their completions
pub mod TailLemmas  -- what an instance keeps of its things
pub mod SearchLemmas  -- what a node leaves to its children
pub mod AlikeLemmas  -- things that are the same, one behind the other
pub mod DrawnLemmas  -- the order in which things are drawn
pub mod RestoredLemmas  -- selections of things drawn from a list
pub mod FormatLemmas  -- what the rows of an instance give
