-- What becomes of the numbers where items leave.
use Rattle.std.specs.Prelude.{ℕ, zero, suc, ◌≡◌, ◌⊎◌, ◌+◌, ◌<◌, ◌≤◌, List, [], ◌∷◌, length, nat_lt, if◌then◌else◌}
use Rattle.klsm_run.specs.declared.item.Item.{Item}
use Rattle.klsm_run.specs.Block.{HasLevel}
use Rattle.klsm_run.specs.Content.{sorted}
use Rattle.klsm_lsm.specs.Level.{level}
use Rattle.klsm_lsm.specs.Adding.{without_items}
use Rattle.klsm_pile.specs.declared.fetched.Fetched.{Fetched}
use Rattle.klsm_pile.specs.Piece.{PieceState}
use Rattle.klsm_pile.specs.Pieces.{at_level, items_between}

-- the levels from `low` to `high` become `to`
abbrev pub regrouped_level : ℕ → ℕ → ℕ → ℕ → ℕ
regrouped_level low high to l = if nat_lt l low then l else if nat_lt high l then l else to

-- the pieces of those levels have the number `to`; no item moves
abbrev pub regrouped : ℕ → ℕ → ℕ → List PieceState → List PieceState
regrouped low high to [] = []
regrouped low high to (p ∷ ps) = record p { level = regrouped_level low high to p.level } ∷ regrouped low high to ps

-- and so the items of the front
abbrev pub relabelled : ℕ → ℕ → ℕ → List Fetched → List Fetched
relabelled low high to [] = []
relabelled low high to (f ∷ fs) = record f { level = regrouped_level low high to f.level } ∷ relabelled low high to fs

-- one more, where there are items
abbrev pub one_more : List Item → ℕ → ℕ
one_more [] n = n
one_more (x ∷ xs) n = suc n

-- which block of the levels below the first number is that of level l
abbrev pub place_of : ℕ → ℕ → List PieceState → ℕ
place_of zero l ps = 0
place_of (suc k) l ps = if nat_lt l k then one_more (at_level k ps) (place_of k l ps) else 0

-- `count` items have left level l, from place `from` of its block on, and some are left
pub record IsLeft (l from count : ℕ) (ps qs : List PieceState) : Type 0 where
  pub some_left : count < length (at_level l ps)
  pub here : sorted (at_level l qs) ≡ without_items (sorted (at_level l ps)) from count
  pub others : (k : ℕ) → (k ≡ l → ⊥) → at_level k qs ≡ at_level k ps

-- what is left is of level `to`, and no level from there on is taken
pub record IsAlone (l low to : ℕ) (qs : List PieceState) : Type 0 where
  pub same : low ≡ to
  pub free : (k : ℕ) → low ≤ k → k < l → at_level k qs ≡ []

-- what is left is of no greater level than `low`, the next level that is taken
pub record IsTogether (l low : ℕ) (qs : List PieceState) : Type 0 where
  pub below : low < l
  pub some : 0 < length (at_level low qs)
  pub no_greater : level (at_level l qs) ≤ low
  pub free : (k : ℕ) → low < k → k < l → at_level k qs ≡ []

-- the levels from `low` to l are, together, one block of level `to`
pub record IsSettling (l low to : ℕ) (qs : List PieceState) : Type 0 where
  pub order : low ≤ to
  pub within : to ≤ l
  pub has : HasLevel to (length (items_between low (suc l) qs))
  pub next : IsAlone l low to qs ⊎ IsTogether l low qs

-- `count` items have left level l, from place `from` of its block on
pub record IsCutOut (l from count : ℕ) (ps qs : List PieceState) : Type 0 where
  pub some : 0 < count
  pub within : from + count ≤ length (at_level l ps)
  pub here : sorted (at_level l qs) ≡ without_items (sorted (at_level l ps)) from count
  pub others : (k : ℕ) → (k ≡ l → ⊥) → at_level k qs ≡ at_level k ps

-- the numbers are settled once items have left level l: either none is left of its block, or what is left has the number of its level,
-- together with the next block where it has fallen to the level of that
pub record IsRegrouped (l : ℕ) (qs rs : List PieceState) : Type 0 where
  pub some : 0 < length (at_level l qs)
  pub low : ℕ
  pub to : ℕ
  pub settling : IsSettling l low to qs
  pub regroups : rs ≡ regrouped low l to qs

abbrev pub IsSettled : ℕ → List PieceState → List PieceState → Type 0
IsSettled l qs rs = ((at_level l qs ≡ []) × (rs ≡ qs)) ⊎ IsRegrouped l qs rs
