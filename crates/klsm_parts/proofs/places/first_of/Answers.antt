use Rattle.std.proofs.Common.{[]}
use Rattle.std.proofs.lemmas.Option.{get_or_from_slice_get}
use Rattle.klsm_parts.proofs.places.first_of.Goals as goal

pub returns-clause-item : goal.returns-clause-item
returns-clause-item g c = rw (get_or_from_slice_get c.args.lsm.now c.args.block _ [] c.block.ensures.block) c.item_at-item.ensures
