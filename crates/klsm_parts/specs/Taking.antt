-- How a deletion chooses its item, and how the item leaves the blocks of its part.
use Rattle.std.specs.Prelude.{◌≡◌, ◌⊎◌, ◌==◌, ℕ, zero, suc, Bool, false, true, not, List, [], ◌∷◌, length, slice_get, slice_index_or, if◌then◌else◌, Option, Some, None}
use Rattle.klsm_run.specs.declared.item.Item.{Item}
use Rattle.klsm_run.specs.ItemOrder.{is_smaller}
use Rattle.klsm_lsm.specs.Adding.{cut}
use Rattle.klsm_parts.specs.Parts.{PartState}

-- by the least own item and the least shared one: whether the picker is asked, as no own item is smaller than all shared ones
abbrev pub picks : Option Item → Option Item → Bool
picks least_own None = false
picks None (Some y) = true
picks (Some x) (Some y) = not (is_smaller x y)

-- the lesser of a candidate and the least own item; the candidate where there is no own item
abbrev pub lesser_of : Item → Option Item → Item
lesser_of candidate None = candidate
lesser_of candidate (Some x) = if is_smaller x candidate then x else candidate

-- the candidate, unless an own item is smaller
abbrev pub unless_smaller : Item → Option Item → Option Item
unless_smaller candidate None = Some candidate
unless_smaller candidate (Some x) = if is_smaller x candidate then None else Some candidate

-- of the candidates up to the one of an index, the index of the first that an owner inserted, and that index where there is none
abbrev pub own_first : ℕ → ℕ → List Item → ℕ
own_first owner zero candidates = zero
own_first owner (suc index) [] = suc index
own_first owner (suc index) (c ∷ candidates) = if c.stamp.owner == owner then zero else suc (own_first owner index candidates)

-- the picker was asked once for one of the candidates; of those up to it the first that the owner inserted, or else that one, is the
-- candidate that counts; and this follows from it
pub record IsPicked {P : Type 0} (may_pick : P → ℕ → ℕ → P → Type 0) (before after : P) (owner : ℕ) (candidates : List Item) (Follows : Item → Type 0) : Type 0 where
  pub index : ℕ
  pub picked : may_pick before (length candidates) index after
  pub candidate : Item
  pub found : slice_get candidates (own_first owner index candidates) ≡ Some candidate
  pub follows : Follows candidate

-- blocks without an item of theirs, which was cut out of its block
abbrev pub IsCutFrom : Item → List (List Item) → List (List Item) → Type 0
IsCutFrom x blocks rest = (at : ℕ) × (index : ℕ) × (slice_get (slice_index_or blocks at []) index ≡ Some x) × (rest ≡ cut blocks at index)

-- an item leaves one of two parts, and the other stays
abbrev pub Leaves : Item → PartState → PartState → PartState → PartState → Type 0
Leaves x own own_after shared shared_after =
    (own_after.k ≡ own.k) × (shared_after.k ≡ shared.k)
    × ((IsCutFrom x own.blocks own_after.blocks × (shared_after.blocks ≡ shared.blocks))
    ⊎ (IsCutFrom x shared.blocks shared_after.blocks × (own_after.blocks ≡ own.blocks)))
