-- What goes to a member that spies, and what stays.
use Rattle.std.specs.Prelude.{◌/◌, List, [], ◌∷◌, length, take, drop, ◌==◌, if◌then◌else◌, Option, Some, None}
use Rattle.klsm_run.specs.declared.item.Item.{Item}

-- the largest block, or the greatest half, rounded up, of the only one
abbrev pub spied : List (List Item) → Option (List Item)
spied [] = None
spied (b ∷ []) = Some (drop (length b / 2) b)
spied (b ∷ c ∷ cs) = Some b

-- the other blocks, or the least half, rounded down, of the only one
abbrev pub left_by_spy : List (List Item) → List (List Item)
left_by_spy [] = []
left_by_spy (b ∷ []) = if length b == 1 then [] else take (length b / 2) b ∷ []
left_by_spy (b ∷ c ∷ cs) = c ∷ cs
