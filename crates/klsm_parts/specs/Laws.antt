-- What follows from the definitions alone.
use Rattle.std.specs.Prelude.{ℕ, ◌≡◌, ◌≢◌, ◌+◌, ◌<◌, ◌≤◌, ◌^◌, List, ◌∷◌, ◌++◌, slice_get, Some}
use Rattle.std.specs.List.{Contains}
use Rattle.klsm_run.specs.declared.item.Item.{Item}
use Rattle.klsm_run.specs.Content.{sorted, skipped, IsAscending}
use Rattle.klsm_parts.specs.Least.{least, IsLeast}
use Rattle.klsm_parts.specs.Events.{MayTake, MayTakeEarly, front_of, shared_after_refill}
use Rattle.klsm_parts.specs.Parts.{PartState, items_in, least_in, candidates_of}
use Rattle.klsm_parts.specs.Refilling.{refill_of}
use Rattle.klsm_parts.specs.Taking.{own_first, lesser_of}

-- a deletion skips at most k items of the two parts
abbrev pub TakesSkipFewOfBoth : Type 0
TakesSkipFewOfBoth = (k owner : ℕ) (own shared : List Item) (x : Item) → MayTake k owner own shared x → skipped (own ++ shared) x ≤ k

-- the candidate that goes by the rule of own order, or the least own item in its place, is one that may be taken
abbrev pub OwnOrderMayTake : Type 0
OwnOrderMayTake = (k owner index : ℕ) (own shared : List Item) (candidate x : Item)
    → slice_get (least (k + 1) shared) (own_first owner index (least (k + 1) shared)) ≡ Some candidate
    → IsLeast x (candidate ∷ own)
    → MayTake k owner own shared x

-- a deletion by the front skips no item of the two parts
abbrev pub EarliesSkipNone : Type 0
EarliesSkipNone = (own shared : List Item) (x : Item) → MayTakeEarly own x (front_of shared) → skipped (own ++ shared) x ≡ 0

-- the lesser of the first candidate and the least own item is the least item of both parts
abbrev pub FirstGivesLeast : Type 0
FirstGivesLeast = (own shared : PartState) (candidate : Item) → slice_get (candidates_of shared) 0 ≡ Some candidate
    → slice_get (sorted (items_in own ++ items_in shared)) 0 ≡ Some (lesser_of candidate (least_in own))

-- what a refill moved may go by the front that it leaves, all but the items of the front's own key: as long as the own part
-- has such an item, its least item may
abbrev pub RefilledMayGoEarly : Type 0
RefilledMayGoEarly = (most k : ℕ) (own shared later : List Item) (x y : Item) → IsAscending shared
    → Contains (refill_of most k own shared) x → x.key < 2 ^ 64
    → x.key ≢ front_of (shared_after_refill shared (refill_of most k own shared))
    → Contains later x → IsLeast y later
    → MayTakeEarly later y (front_of (shared_after_refill shared (refill_of most k own shared)))
