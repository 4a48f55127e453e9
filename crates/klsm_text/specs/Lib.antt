-- The definitions, in the order in which they are best read.
pub mod Script  -- what a row asks for, and what is wrong with it
pub mod Reading  -- how far the reading of a script has come
pub mod AnswerText  -- the answer text
pub mod Reports  -- how a run ended, and how much of its text went out
pub mod ThreadRows  -- the rows of a script that is read whole
pub mod Keeping  -- how far the reading of a whole script has come
pub mod TotalsText  -- the line of the totals
pub mod SelectionText  -- the lines of `klsm knapsack`
pub mod LineText  -- the text of a line that is being made
pub mod Output  -- what writing a line does
pub mod Waiting  -- what has gone out before a row is waited for
