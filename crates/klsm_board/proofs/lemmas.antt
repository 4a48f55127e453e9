-- Lemmas, in a folder for each subject.
pub mod table  -- what keeps the rule of the table, and what a seat has after a step
pub mod slots  -- the parts in slots
pub mod seats  -- what a seat carries
pub mod hands  -- the parts in hand, and what events leave of them
pub mod calls  -- what the calls add to a list
pub mod ending  -- the end of a board
