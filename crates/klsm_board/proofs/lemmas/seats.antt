-- What a seat carries.
pub mod CarryLemmas  -- the slots carried, out of what is known of their contents
pub mod StandLemmas  -- a seat that has its parts
pub mod RestLemmas  -- a member between two of its calls
pub mod TurnLemmas  -- the slots carried, in turn
pub mod LendLemmas  -- two parts at once
pub mod SpyLemmas  -- three parts
pub mod StealLemmas  -- a victim's part and the own one
