-- The definitions, in the order in which they are best read.
pub mod Numbers  -- the numbers of the incumbent
pub mod Highest  -- the rule of the incumbent's word
pub mod IncumbentSeats  -- what a thread's seat at it knows
pub mod Work  -- nodes as items, what workers do with them, and that nothing is missed
pub mod Ends  -- how workers end
pub mod Answers  -- what a worker's calls answered, in the order of its list
pub mod Courses  -- what the calls of a member add to its list, and how its picker goes on by them
pub mod Workers  -- workers, and how the work of one of them grows
pub mod Searches  -- what the lists of the workers tell of how a search was made
pub mod Refusals  -- why a search ends without an answer
