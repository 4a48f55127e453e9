-- The definitions, in the order in which they are best read.
pub mod Selections  -- selections of things
pub mod Limits  -- how large a problem may be
pub mod Nodes  -- nodes of the search, and their bounds
pub mod Answers  -- what a search answers
pub mod Format  -- what the rows of an instance say, and what is wrong with a row
pub mod Reordering  -- problems whose things stand in another order
pub mod Prepared  -- how an instance is kept; no public contract cites it
