-- Where the least item of an LSM stands.
use Rattle.std.specs.Prelude.{◌≡◌, ◌<◌, List, [], length, slice_get, slice_index_or, Option, Some, IfSome, option_map}
use Rattle.klsm_run.specs.declared.item.Item.{Item}
use Rattle.klsm_run.specs.Content.{sorted}
use Rattle.klsm_lsm.specs.Lsm.{content}
use Rattle.klsm_parts.specs.declared.places.Place.{Place}

-- the least item with its block and its index there, where there is an item: it is the first of its block
pub record IsLeastPlace (blocks : List (List Item)) (found : Option Place) : Type 0 where
  pub item : option_map (λ place. place.item) found ≡ slice_get (sorted (content blocks)) 0
  pub place : IfSome found (λ place. (place.block < length blocks) × (slice_get (slice_index_or blocks place.block []) place.index ≡ Some place.item))
  pub first : IfSome found (λ place. place.index ≡ 0)
