-- The definitions, in the order in which they are best read.
pub mod Parts  -- parts as contracts see them, and what each kind always is
pub mod Least  -- the least items of a content
pub mod Pivots  -- exact pivots
pub mod Events  -- the events: when each may happen, and what it leaves
pub mod Flushing  -- what moves at a flush
pub mod Refilling  -- what moves at a refill
pub mod Stealing  -- the event of a steal, and what moves
pub mod Sharing  -- the event by which a member shares items
pub mod Taking  -- how a deletion chooses
pub mod Generators  -- the generator of random picks
pub mod Choices  -- how a picker picks that is chosen while a program runs
pub mod EitherPart  -- a part of either kind
pub mod Queues  -- the queue for one thread
pub mod Laws  -- what follows from the definitions alone
pub mod LeastPlaces  -- where the least item stands; no public contract cites it
-- Callers name these by this crate.
pub use Rattle.klsm_lsm.specs.Limit  -- how many items an LSM can hold
pub use Rattle.klsm_pile.specs.Leaving  -- the blocks without their least items
