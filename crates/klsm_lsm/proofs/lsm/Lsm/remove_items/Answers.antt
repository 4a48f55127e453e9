use Rattle.std.proofs.lemmas.Bool.{both_ways}
use Rattle.klsm_lsm.proofs.lsm.Lsm.remove_items.Goals as goal

pub remove_and_join-requires : goal.remove_and_join-requires
remove_and_join-requires g c = (search, (c.joins_next.ensures.0 c.if-joins_next.true, (c.requires.within, c.requires.one)))

pub remove_alone-requires : goal.remove_alone-requires
remove_alone-requires g c =
    (search, (c.requires.block, (c.requires.within, (c.requires.one, λ joins. both_ways c.joins_next.result c.if-joins_next.false (c.joins_next.ensures.1 joins)))))
