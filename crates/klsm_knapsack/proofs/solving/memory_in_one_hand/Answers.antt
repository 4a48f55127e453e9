use Rattle.std.proofs.Common.{refl, subst, List, lit<}
use Rattle.klsm_schedules.specs.declared.step.Entry.{Entry}
use Rattle.klsm_board.specs.Finishing.{AreListsAtEnd}
use Rattle.klsm_board.proofs.lemmas.ending.MemberLemmas.{all_of_board, none_missing}
use Rattle.klsm_knapsack.proofs.solving.memory_in_one_hand.Goals as goal

pub gather-requires : goal.gather-requires
gather-requires g c = (lit< tt, (lit< tt, (lit< tt, (lit< tt, all_of_board c.args.board.now c.args.members.items c.requires.crew))))

pub unreachable-requires : goal.unreachable-requires
unreachable-requires g c =
    let refused = c.in_default.field-0 in
    none_missing c.args.board.now c.args.members.items c.requires.crew refused.missing ((c.in_default.ensures.missing refused.missing).0 refl)

pub unreachable-requires-in-Full : goal.unreachable-requires-in-Full
unreachable-requires-in-Full g c = c.requires.room c.in-Full.is (subst (λ (z : List (List Entry)). AreListsAtEnd c.args.board.now.sizes z) c.in-Ok.ensures.same.1 c.in-Ok.ensures.lists)
