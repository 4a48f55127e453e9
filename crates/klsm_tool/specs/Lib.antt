-- The definitions, in the order in which they are best read.
pub mod Shown  -- what a member's list shows in the text
pub mod Crews  -- the members that answer rows
pub mod SkipCounters  -- the live items, by which skips are counted
pub mod Picking  -- how the deletions of each thread pick, and when its member begins to balance
pub mod MemberCalls  -- what a member answers to a row
pub mod Courses  -- what the calls of a member add to its list, one after another, and how they go by its picker
pub mod Answering  -- what a replay keeps beside the board, and how a row is answered
pub mod Replay  -- what `replay_over` promises
pub mod Live  -- what `live_over` promises
pub mod Knapsack  -- what `knapsack_over` promises
pub mod Settings  -- settings with no refill and no balance
pub mod Program  -- what `run_words` promises
pub mod Progress  -- how far a replay has come; no public contract cites it
pub mod Working  -- what the workers of a script do; no public contract cites it
