-- The laws that the functions of src/laws.rt ensure.
pub mod SkipLemmas  -- a deletion skips few, and "nothing" leaves few
pub mod ReachedLemmas  -- schedules that reach the bounds
pub mod RefillReachedLemmas  -- such schedules with a refill
pub mod StampLemmas  -- the item of the next insertion is new
pub mod RunLemmas  -- a schedule is a run of the relaxed queue
pub mod FoundContentLemmas  -- an acquire records the content at home
pub mod LookLemmas  -- a look notes the front, and each look in a list did
pub mod LiveOnceLemmas  -- no item is live twice
pub mod OwnListLemmas  -- what a list of own steps tells
pub mod OwnEventLemmas  -- lists have the events of a schedule
pub mod AccountLemmas  -- the account
pub mod LiveLemmas  -- what lives, by a hand with all parts, and later
pub mod WorkLemmas  -- the keys in work, and what is deleted later
pub mod SeenLemmas  -- the keys that a thread saw, with the parts of those who work at them in hand
pub mod OrderLemmas  -- contents ascend
