-- The definitions, in the order in which they are best read.
pub mod Rule  -- the rule of the table
pub mod Entries  -- what stands in a list where parts are acquired
pub mod Inserting  -- what an insertion adds to its member's list
pub mod Pausing  -- what comes between two tries of a call that may wait
pub mod Choosing  -- how a deletion chooses
pub mod Deleting  -- what a deletion adds
pub mod Stealing  -- what a steal adds
pub mod Sharing  -- what the sharing of all own items adds
pub mod Balancing  -- when a member balances, and with which other one
pub mod Effects  -- where a deletion takes effect, and in which world
pub mod Bounding  -- what a bound adds, and in which world it is that of all live items and of all keys in work
pub mod Resting  -- what a rest adds
pub mod Boards  -- boards, their members, and what a member holds
pub mod Finishing  -- how a board ends
pub mod Turning  -- lists of several threads, of which one comes to the front
pub mod Knowing  -- what a seat knows that has the lists of several threads
pub mod Together  -- all members of a board in one hand
pub mod Steps  -- what a step on a lock tells
pub mod Seats  -- what a seat has between two steps
pub mod TakingOut  -- what a deletion does to two parts while it has both
pub mod Slots  -- the parts as slots have them
pub mod Members  -- what always holds of a member; no public contract cites it
