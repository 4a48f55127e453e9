-- The end of a board.
pub mod NumberLemmas  -- the members by their numbers
pub mod SumLemmas  -- how many items they inserted and deleted
pub mod ListLemmas  -- the parts, taken out and listed
pub mod JoinLemmas  -- a seat that takes in their lists
pub mod EndLemmas  -- the lists of all members, by their numbers
pub mod MemberLemmas  -- the members of a board, in the order of their numbers
pub mod CloseLemmas  -- a closed board has the items that its account leaves
pub mod WholeLemmas  -- all members in one hand
pub mod FoundLemmas  -- what is found is no more than what was inserted
pub mod FullLemmas  -- where an insertion finds the shared part full
pub mod LeftLemmas  -- what is left, from call to call
