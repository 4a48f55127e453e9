-- Blocks as numbers: the pieces of one level are, together, one block.
use Rattle.std.specs.Prelude.{ℕ, ◌≡◌, zero, suc, ◌==◌, Bool, true, false, List, [], ◌∷◌, ◌++◌, nat_lt, if◌then◌else◌}
use Rattle.klsm_run.specs.declared.item.Item.{Item}
use Rattle.klsm_run.specs.Content.{sorted}
use Rattle.klsm_pile.specs.Piece.{PieceState}

-- items, where they count
abbrev pub counted : Bool → List Item → List Item
counted true xs = xs
counted false xs = []

-- the items of the pieces whose level passes a test
abbrev pub items_where : (ℕ → Bool) → List PieceState → List Item
items_where test [] = []
items_where test (p ∷ ps) = counted (test p.level) p.items ++ items_where test ps

-- the items of the pieces of one level
abbrev pub at_level : ℕ → List PieceState → List Item
at_level l = items_where (λ n. n == l)

-- the items of all pieces
abbrev pub every_item : List PieceState → List Item
every_item = items_where (λ n. true)

-- the same items at the same levels
abbrev pub HaveSame : List PieceState → List PieceState → Type 0
HaveSame ps qs = (test : ℕ → Bool) → sorted (items_where test ps) ≡ sorted (items_where test qs)

-- a block of these items before others, where there are any
abbrev pub block_before : List Item → List (List Item) → List (List Item)
block_before [] bs = bs
block_before (x ∷ xs) bs = sorted (x ∷ xs) ∷ bs

-- the blocks of the levels below one, the greatest first
abbrev pub blocks_below : ℕ → List PieceState → List (List Item)
blocks_below zero ps = []
blocks_below (suc l) ps = block_before (at_level l ps) (blocks_below l ps)

-- whether a level is in a range
abbrev pub is_between : ℕ → ℕ → ℕ → Bool
is_between from to n = if nat_lt n from then false else nat_lt n to

-- the items of the levels from `from` up to `to`
abbrev pub items_between : ℕ → ℕ → List PieceState → List Item
items_between from to = items_where (is_between from to)
