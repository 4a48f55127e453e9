-- The definitions, in the order in which they are best read.
pub mod Level  -- the level of a block
pub mod Lsm  -- LSMs: their content, and which are lawful
pub mod Limit  -- how many items an LSM can hold
pub mod Adding  -- adding a run, and cutting items out
pub mod Places  -- which blocks become one, told before
pub mod Spying  -- what goes to a member that spies
pub mod Laws  -- what adding and cutting keep
pub mod Slots  -- how an LSM is stored; no public contract cites it
