-- When a member steals from another's part, and what that adds to its list.
use Rattle.std.specs.Prelude.{◌≡◌, ℕ, ◌⊎◌, Bool, false, true, ltb, ◌&&◌, List, [], ◌∷◌, ◌++◌, slice_get, if◌then◌else◌, Option, Some, None}
use Rattle.klsm_run.specs.declared.item.Item.{Item}
use Rattle.klsm_run.specs.ItemOrder.{is_smaller}
use Rattle.klsm_parts.specs.Stealing.{MaySteal, steal_of}
use Rattle.klsm_schedules.specs.declared.step.Event.TheVariants.{Steal}
use Rattle.klsm_schedules.specs.declared.step.Entry.{Entry}
use Rattle.klsm_schedules.specs.declared.step.Entry.TheVariants.{Acquired, Committed, Released, Missed}
use Rattle.klsm_schedules.specs.OwnSteps.{own_part}
use Rattle.klsm_board.specs.declared.sizes.Sizes.{Sizes}
use Rattle.klsm_board.specs.Entries.{own_looked}

-- by a front, the least own item and a victim's: whether the victim's is below the front, and smaller than the own one
abbrev pub gains_by : ℕ → Option Item → Option Item → Bool
gains_by front own None = false
gains_by front None (Some y) = ltb y.key front
gains_by front (Some x) (Some y) = ltb y.key front && is_smaller y x

-- what moves then: the least items of the victim's part, `most` at most; and else nothing
abbrev pub stolen : ℕ → ℕ → ℕ → List Item → List Item → List Item
stolen front most k own found =
    if gains_by front (slice_get own 0) (slice_get found 0) then steal_of most k own found else []

-- items moved from a victim's part to the own one
pub record Steals (front most k victim : ℕ) (own : List Item) (es es' : List Entry) (moved : List Item) : Type 0 where
  pub found : List Item
  pub may : MaySteal k own found moved
  pub least : moved ≡ stolen front most k own found
  pub steps : es' ≡ es ++ Acquired (own_part victim) found ∷ Committed (Steal victim moved) ∷ Released (own_part victim) ∷ []

-- nothing moved: the victim's lock was not free, or what was found there gains nothing
abbrev pub StealsNone : ℕ → ℕ → ℕ → ℕ → List Item → List Entry → Type 0
StealsNone front most k victim own added =
    ((by : ℕ) × (added ≡ Missed (own_part victim) by ∷ []))
    ⊎ ((found : List Item) × (stolen front most k own found ≡ [])
    × (added ≡ Acquired (own_part victim) found ∷ Released (own_part victim) ∷ []))

-- a victim was tried, with the own part in hand, and items moved, or none did
abbrev pub TriesVictim : ℕ → ℕ → ℕ → ℕ → List Item → List Entry → List Entry → Bool → Type 0
TriesVictim front most k victim own es es' true = (moved : List Item) × Steals front most k victim own es es' moved
TriesVictim front most k victim own es es' false = (added : List Entry) × StealsNone front most k victim own added × (es' ≡ es ++ added)

-- The own part was acquired, and the front looked at. Then a victim was tried, and the own part was released.
pub record Balances (m : Sizes) (t most victim : ℕ) (es es' : List Entry) (moves : Bool) : Type 0 where
  pub own : List Item
  pub front : ℕ
  pub tried : List Entry
  pub tries : TriesVictim front most m.k victim own (own_looked t own (Some front) es) tried moves
  pub steps : es' ≡ tried ++ Released (own_part t) ∷ []
