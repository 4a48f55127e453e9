-- The least items of a content.
use Rattle.std.specs.Prelude.{◌≡◌, ℕ, List, take, slice_get, Some}
use Rattle.klsm_run.specs.declared.item.Item.{Item}
use Rattle.klsm_run.specs.Content.{sorted}

-- the least n items of a content, in ascending order, and all of them where there are fewer
abbrev pub least : ℕ → List Item → List Item
least n c = take n (sorted c)

-- x is the least item of a content
abbrev pub IsLeast : Item → List Item → Type 0
IsLeast x c = slice_get (sorted c) 0 ≡ Some x
