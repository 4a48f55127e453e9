-- How a deletion chooses.
use Rattle.std.specs.Prelude.{◌≡◌, ℕ, ◌+◌, false, IsTrue, List, take, slice_get, Some}
use Rattle.klsm_run.specs.declared.item.Item.{Item}
use Rattle.klsm_parts.specs.Taking.{picks, lesser_of, IsPicked}

-- The picker was asked, once, exactly where the least item of both contents is a shared one. Then
-- the item is the lesser of a candidate and the least own item: of the candidates up to the one that
-- it answered the first that the owner inserted, or that one where there is none. Else it is the
-- least own item.
pub record Chooses {P : Type 0} (may_pick : P → ℕ → ℕ → P → Type 0) (before after : P) (k owner : ℕ) (own shared : List Item) (x : Item) : Type 0 where
  pub unasked : picks (slice_get own 0) (slice_get shared 0) ≡ false
      → (after ≡ before) × (slice_get own 0 ≡ Some x)
  pub asked : IsTrue (picks (slice_get own 0) (slice_get shared 0))
      → IsPicked may_pick before after owner (take (k + 1) shared)
      (λ candidate. x ≡ lesser_of candidate (slice_get own 0))
