-- What keeps the rule of the table, and what a seat has after a step.
pub mod DealtLemmas  -- the views together keep each list once
pub mod PlaceLemmas  -- lock words that stand apart
pub mod KeepLemmas  -- a seat that goes on with its list keeps the rule
pub mod FrontLemmas  -- the steps on the front word keep the rule
pub mod AcquireLemmas  -- a try to acquire a part keeps the rule
pub mod ReleaseLemmas  -- a release and a commit keep the rule
pub mod MarkLemmas  -- the steps on a mark keep the rule
pub mod KnownLemmas  -- a thread's list comes to the front of those that a seat knows
pub mod SeatLemmas  -- what a member's seat has after a step
pub mod OpeningLemmas  -- the rule at first, and where lists go from one seat to another
pub mod MakeLemmas  -- the slots and the members of a new board
