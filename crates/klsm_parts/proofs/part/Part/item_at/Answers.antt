use Rattle.std.proofs.Common.{◌≡◌, ◌<◌, List, Some, length, subst}
use Rattle.std.specs.List.{slice_get}
use Rattle.klsm_run.specs.declared.item.Item.{Item}
use Rattle.klsm_lsm.specs.Lsm.{content}
use Rattle.klsm_parts.specs.EitherPart.{state_of}
use Rattle.klsm_parts.specs.declared.part.Part.{Part}
use Rattle.klsm_parts.proofs.FitLemmas.{fixed_run_fits, own_lsm_fits, local_fits, shared_fits}
use Rattle.klsm_parts.proofs.part.Part.item_at.Goals as goal

pub lsm-requires : goal.lsm-requires
lsm-requires g c = (local_fits _ c.requires.capacity, (own_lsm_fits _ c.requires.capacity, fixed_run_fits _ c.requires.capacity))

pub item_listed-requires-room-R-Run : goal.item_listed-requires-room-R-Run
item_listed-requires-room-R-Run g c κs = fixed_run_fits _ c.requires.capacity

pub item_listed-requires : goal.item_listed-requires
item_listed-requires g c = (
  own_lsm_fits _ c.requires.capacity,
  rw c.lsm.ensures (subst (λ (part : Part g.row.CAP g.row.LEVELS). c.args.index < length (content (state_of part).blocks)) c.in-Own.is c.requires.index),
)

pub item_at-requires : goal.item_at-requires
item_at-requires g c = (
  shared_fits _ c.requires.levels,
  subst (λ (part : Part g.row.CAP g.row.LEVELS). c.args.index < length (content (state_of part).blocks)) c.in-Common.is c.requires.index,
)

pub returns-in-Own : goal.returns-in-Own
returns-in-Own g c = rw c.in-Own.is (subst (λ (bs : List (List Item)). slice_get (content bs) c.args.index ≡ Some c.item_listed.result) c.lsm.ensures c.item_listed.ensures)

pub returns-in-Common : goal.returns-in-Common
returns-in-Common g c = rw c.in-Common.is c.item_at.ensures
