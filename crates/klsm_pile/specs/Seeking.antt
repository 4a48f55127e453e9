-- Which items come after another one.
use Rattle.std.specs.Prelude.{Bool, true, List, [], ◌∷◌, ◌++◌, Option, Some, None, slice_get}
use Rattle.klsm_run.specs.declared.item.Item.{Item}
use Rattle.klsm_run.specs.ItemOrder.{is_smaller}
use Rattle.klsm_run.specs.Content.{sorted}
use Rattle.klsm_pile.specs.Pieces.{counted}

-- whether an item is larger than another one, if there is one
abbrev pub is_over : Option Item → Item → Bool
is_over None x = true
is_over (Some bound) x = is_smaller bound x

-- the items that are larger
abbrev pub items_over : Option Item → List Item → List Item
items_over bound [] = []
items_over bound (x ∷ xs) = counted (is_over bound x) (x ∷ []) ++ items_over bound xs

-- the least of them, if there is one
abbrev pub least_over : Option Item → List Item → Option Item
least_over bound xs = slice_get (sorted (items_over bound xs)) 0
