-- What the calls add to a list.
pub mod MissLemmas  -- tries that met a lock, one after another
pub mod WaitLemmas  -- a call that may wait
pub mod TestLemmas  -- what is known by cases
pub mod TakeLemmas  -- the deletion from an own part alone
pub mod EventLemmas  -- which events the entries have
pub mod AddLemmas  -- what the calls insert and delete
pub mod AddedLemmas  -- the events of each call
pub mod RefillLemmas  -- what a refill adds
pub mod StealLemmas  -- when a steal moves items
pub mod BoundingLemmas  -- a bound, from what its acquires found to the world that it is of
pub mod SeenLemmas  -- the keys in work that a bound saw are those of one world
pub mod RestingLemmas  -- what a rest adds
pub mod ReadingLemmas  -- parts that are acquired, read and released one after another
pub mod SharingLemmas  -- what the sharing of all own items adds
pub mod DeletedLemmas  -- those of a deletion
pub mod LoneLemmas  -- with one thread a deletion skips nothing
pub mod EffectLemmas  -- where a deletion takes effect
pub mod EarlyLemmas  -- the deletion by the front, from the own part in hand
pub mod FullLemmas  -- an insertion that found its own part full
