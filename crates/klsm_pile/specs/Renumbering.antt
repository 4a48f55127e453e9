-- What becomes of the numbers where a run is put in.
use Rattle.std.specs.Prelude.{ℕ, ◌≡◌, ◌<◌, ◌≤◌, max, List, [], ◌∷◌, ◌++◌, length, nat_lt, if◌then◌else◌}
use Rattle.std.specs.List.{AllByRecursion}
use Rattle.klsm_pile.specs.declared.fetched.Fetched.{Fetched}
use Rattle.klsm_pile.specs.Piece.{PieceState}
use Rattle.klsm_pile.specs.Front.{parts, front_items}
use Rattle.klsm_pile.specs.Pieces.{at_level, every_item}

-- a level of `from` or more becomes `to` at least
abbrev pub raised_level : ℕ → ℕ → ℕ → ℕ
raised_level from to l = if nat_lt l from then l else max l to

-- the pieces of the levels from `from` up to `to` have the number `to`; no item moves
abbrev pub raised : ℕ → ℕ → List PieceState → List PieceState
raised from to [] = []
raised from to (p ∷ ps) = record p { level = raised_level from to p.level } ∷ raised from to ps

-- all levels from `from` up to `to` have items, and `to` has none: there a run of level `from` comes to lie
pub record IsLanding (ps : List PieceState) (from to : ℕ) : Type 0 where
  pub order : from ≤ to
  pub taken : (l : ℕ) → from ≤ l → l < to → 0 < length (at_level l ps)
  pub free : at_level to ps ≡ []

-- the pieces with one more, at level `to`
abbrev pub landed : List PieceState → ℕ → ℕ → PieceState → List PieceState
landed ps from to piece = raised from to ps ++ record piece { level = to } ∷ []

-- the items are where they were, whatever the numbers
pub record IsRenumbered (levels : ℕ) (front : List Fetched) (ps : List PieceState) (after : List Fetched) (rest : List PieceState) : Type 0 where
  pub items : front_items after ≡ front_items front
  pub pieces : every_item rest ≡ every_item ps
  pub below : AllByRecursion (λ (p : PieceState). p.level < levels) (parts front ps) → AllByRecursion (λ (p : PieceState). p.level < levels) (parts after rest)
  pub lengths : (length after ≡ length front) × (length rest ≡ length ps)
