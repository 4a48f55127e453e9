-- The item order: by key, then owner, then number, then load. "Smaller" and "least" always mean this order.
use Rattle.std.specs.Prelude.{◌≡◌, Bool}
use Rattle.std.specs.Ordering.{nat_cmp, ordering_then, is_eq, is_lt}
use Rattle.std.specs.declared.cmp.Ordering.{Ordering}
use Rattle.std.specs.declared.cmp.Ordering.TheVariants.{Less}
use Rattle.klsm_run.specs.declared.item.Item.{Item}
use Rattle.klsm_run.specs.declared.item.Stamp.{Stamp}

-- by owner, and then by number
abbrev pub stamp_cmp : Stamp → Stamp → Ordering
stamp_cmp a b = ordering_then (nat_cmp a.owner b.owner) (nat_cmp a.number b.number)

abbrev pub item_cmp : Item → Item → Ordering
item_cmp a b = ordering_then (nat_cmp a.key b.key) (ordering_then (stamp_cmp a.stamp b.stamp) (nat_cmp a.load b.load))

-- the first item comes before the second
abbrev pub is_smaller : Item → Item → Bool
is_smaller a b = is_lt (item_cmp a b)

-- the two are one item
abbrev pub is_same : Item → Item → Bool
is_same a b = is_eq (item_cmp a b)

abbrev pub IsSmaller : Item → Item → Type 0
IsSmaller a b = item_cmp a b ≡ Less
