-- Which piles are lawful.
use Rattle.std.specs.Prelude.{ℕ, ◌≡◌, ◌⊎◌, ◌+◌, ◌*◌, ◌/◌, ◌<◌, ◌≤◌, max, List, [], length, slice_get, slice_index_or, Some}
use Rattle.std.specs.List.{AllByRecursion}
use Rattle.klsm_run.specs.declared.item.Item.{Item}
use Rattle.klsm_run.specs.declared.limits.TheConstants.{MOST_K}
use Rattle.klsm_run.specs.Block.{HasLevel}
use Rattle.klsm_run.specs.Capacity.{heap_room}
use Rattle.klsm_lsm.specs.Adding.{cut}
use Rattle.klsm_lsm.specs.Limit.{IsLevelCount, limit_of}
use Rattle.klsm_lsm.specs.Lsm.{IsLsm}
use Rattle.klsm_pile.specs.declared.fetched.Fetched.{Fetched}
use Rattle.klsm_pile.specs.Piece.{PieceState}
use Rattle.klsm_pile.specs.Pieces.{at_level, every_item, blocks_below}
use Rattle.klsm_pile.specs.Counting.{AreCounts}
use Rattle.klsm_pile.specs.Front.{parts, IsFront}

-- each level has no item, or as many as a block of it
abbrev pub AreNumbered : List PieceState → Type 0
AreNumbered ps = (l : ℕ) → (at_level l ps ≡ []) ⊎ HasLevel l (length (at_level l ps))

-- lawful blocks, each of the level that is its number; the front has the least items in their order, and the levels are counted
pub record IsConsistent (levels : ℕ) (front : List Fetched) (pieces : List PieceState) (counts : List ℕ) : Type 0 where
  pub numbered : AreNumbered (parts front pieces)
  pub below : AllByRecursion (λ (p : PieceState). p.level < levels) (parts front pieces)
  pub lawful : IsLsm (blocks_below levels (parts front pieces))
  pub ordered : IsFront front pieces
  pub counted : AreCounts counts (parts front pieces)

-- how many items more than needed are fetched to the front at once
abbrev pub batch_of : ℕ → ℕ
batch_of reach = max 64 (reach / 2)

-- how many items the front has room for
abbrev pub front_places : ℕ → ℕ
front_places reach = 3 * reach + batch_of reach

-- a pile as contracts see it: its blocks, and how many of its least items can be looked at
pub record PileState : Type 0 where
  pub blocks : List (List Item)
  pub reach : ℕ

-- what is seen of a front and pieces
abbrev pub pile_of : ℕ → ℕ → List Fetched → List PieceState → PileState
pile_of levels reach front pieces = record { blocks = blocks_below levels (parts front pieces); reach = reach }

-- a pile at rest: the front has as many items as can be looked at, or all
pub record IsPile (levels reach len : ℕ) (front : List Fetched) (pieces : List PieceState) (counts : List ℕ) (places : ℕ) : Type 0 where
  pub held : IsConsistent levels front pieces counts
  pub level_counts : length counts ≡ levels
  pub total : len ≡ length (every_item (parts front pieces))
  pub limit : len ≤ limit_of levels heap_room
  pub enough : (reach ≤ length front) ⊎ (every_item pieces ≡ [])
  pub few : length front ≤ front_places reach
  pub room : (len ≡ 0) ⊎ (front_places reach ≤ places)
  pub reach_in_range : (1 ≤ reach) × (reach ≤ MOST_K + 1)
  pub levels_in_range : IsLevelCount levels

-- an item was cut out of its block
abbrev pub IsItemCut : Item → List (List Item) → List (List Item) → Type 0
IsItemCut x blocks rest = (at : ℕ) × (index : ℕ) × (slice_get (slice_index_or blocks at []) index ≡ Some x) × (rest ≡ cut blocks at index)
