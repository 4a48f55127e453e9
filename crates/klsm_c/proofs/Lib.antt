pub mod ListLemmas  -- lists whose front is written over
pub mod HeldLemmas  -- what a handle has that has one member
mod SlotLemmas  -- the members in the slots
mod CallLemmas  -- what a call of a slot tells
mod SumLemmas  -- the items of the members' lists, slot by slot
mod BoardLemmas  -- all members of one board
pub mod RawBoxValues  -- the machine value of a box that was taken apart
mod KeptLemmas  -- a call of one slot keeps them so
