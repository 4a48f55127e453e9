use Rattle.std.proofs.Common.{length, ap, arith}
use Rattle.klsm_lsm.proofs.CutLemmas.{none_of_rest, length_without}
use Rattle.klsm_lsm.proofs.slots.remove_and_unite.Goals as goal

pub unite-requires-clause-apart : goal.unite-requires-clause-apart
unite-requires-clause-apart g c = rw c.remove_from.ensures.rest (none_of_rest _ _ _ _ c.requires.apart)

pub unite-requires-clause-room : goal.unite-requires-clause-room
unite-requires-clause-room g c =
    omega (
      arith,
      ap length c.remove_from.ensures.rest,
      length_without (g.R.Run.items c.args.run.now) c.args.from c.args.count c.requires.within,
      c.remove_from.ensures.capacity,
      c.requires.room c.level-known.result c.level-known.ensures.block.1,
      c.capacity-known.ensures.lawful.whole_block c.level-known.result c.level-known.ensures.block.1,
    )
