-- A steal: the event, and what moves from another member's part to the own one. Contents are given as for the other events.
use Rattle.std.specs.Prelude.{ℕ, ◌≡◌, ◌≢◌, ◌+◌, ◌-◌, ◌/◌, ◌≤◌, List, [], ◌∷◌, length, min, take}
use Rattle.klsm_run.specs.declared.item.Item.{Item}
use Rattle.klsm_run.specs.Content.{IsAscending}
use Rattle.klsm_lsm.specs.Adding.{add}
use Rattle.klsm_parts.specs.Events.{IsWithin, plus, minus}
use Rattle.klsm_parts.specs.Taking.{IsCutFrom}

-- Steal: items move from another member's part to the own one, which has room for them
pub record MaySteal (k : ℕ) (own victim moved : List Item) : Type 0 where
  pub some : moved ≢ []
  pub ascending : IsAscending moved
  pub within : IsWithin moved victim
  pub room : length own + length moved ≤ k

-- what a Steal leaves in the own part and in the victim's
abbrev pub own_after_steal : List Item → List Item → List Item
own_after_steal own moved = plus own moved

abbrev pub victim_after_steal : List Item → List Item → List Item
victim_after_steal victim moved = minus victim moved

-- at most so many items: as half of what the victim has, rounded up, and as there is room for in an own part which may have k items
abbrev pub steal_count : ℕ → ℕ → List Item → List Item → ℕ
steal_count most k own victim = min most (min (length victim - length victim / 2) (k - length own))

-- so many of the least ones
abbrev pub steal_of : ℕ → ℕ → List Item → List Item → List Item
steal_of most k own victim = take (steal_count most k own victim) victim

-- the blocks with items that were added one after the other
abbrev pub with_each : List (List Item) → List Item → List (List Item)
with_each blocks [] = blocks
with_each blocks (x ∷ items) = with_each (add blocks (x ∷ [])) items

-- the blocks without items that were cut out one after the other
abbrev pub AreCutFrom : List Item → List (List Item) → List (List Item) → Type 0
AreCutFrom [] blocks rest = rest ≡ blocks
AreCutFrom (x ∷ items) blocks rest = (between : List (List Item)) × IsCutFrom x blocks between × AreCutFrom items between rest
