-- Blocks without the least items of all.
use Rattle.std.specs.Prelude.{ℕ, ◌==◌, List, [], ◌∷◌, map, nat_lt, if◌then◌else◌}
use Rattle.std.specs.List.{count_by}
use Rattle.klsm_run.specs.declared.item.Item.{Item}
use Rattle.klsm_run.specs.Content.{skipped}
use Rattle.klsm_lsm.specs.Lsm.{content}
use Rattle.klsm_lsm.specs.Adding.{cut_items}

-- how many items of a block are among the least n of a content: fewer than n items are smaller
abbrev pub count_in_least : ℕ → List Item → List Item → ℕ
count_in_least n c block = count_by (λ x. nat_lt (skipped c x) n) block

-- the blocks without the first items of each, as many as is said for each: the last block loses its items first
abbrev pub without_firsts : List (List Item) → List ℕ → List (List Item)
without_firsts [] counts = []
without_firsts (b ∷ bs) [] = b ∷ bs
without_firsts (b ∷ bs) (count ∷ counts) = if count == 0 then b ∷ without_firsts bs counts else cut_items (b ∷ without_firsts bs counts) 0 0 count

-- the blocks without the least n items
abbrev pub cut_least : ℕ → List (List Item) → List (List Item)
cut_least n blocks = without_firsts blocks (map (count_in_least n (content blocks)) blocks)
