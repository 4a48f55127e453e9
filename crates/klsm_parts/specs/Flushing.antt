-- What moves from a full own part to the shared part, and what stays.
use Rattle.std.specs.Prelude.{◌≡◌, ◌<◌, List, [], ◌∷◌, length, slice_get, Some}
use Rattle.klsm_run.specs.declared.item.Item.{Item}
use Rattle.klsm_lsm.specs.Adding.{add}

-- the largest block moves; where there is none, as k is 0, the item itself
abbrev pub moved : List (List Item) → Item → List Item
moved [] x = x ∷ []
moved (b ∷ bs) x = b

-- the item takes the place of the largest block
abbrev pub kept : List (List Item) → Item → List (List Item)
kept [] x = []
kept (b ∷ bs) x = add bs (x ∷ [])

-- a run is the largest block, which moves whatever item comes
abbrev pub IsLargest : List Item → List (List Item) → Type 0
IsLargest run blocks = (slice_get blocks 0 ≡ Some run) × (0 < length run)
