-- How often an item is in a content, and in the contents of a world.
pub mod EventCountLemmas  -- in what an event leaves
pub mod SameLemmas  -- contents with equal counts are one
pub mod ItemGrowthLemmas  -- the items of a list that gains an entry
pub mod LiveCountLemmas  -- where one list gains an entry, or parts change
pub mod GainLemmas  -- what a step adds to the live items
