use Rattle.std.proofs.Common.{◌≡◌, drop}
use Rattle.std.specs.List.{slice_get}
use Rattle.klsm_lsm.specs.Lsm.{content}
use Rattle.klsm_parts.proofs.part.item_listed.Given as goal

-- the item is as far on in the blocks to come
abbrev pub invariant-loop-block : goal.invariant-loop-block
invariant-loop-block g l = slice_get (content (drop l.block l.lsm)) l.left ≡ slice_get (content l.lsm) l.index
