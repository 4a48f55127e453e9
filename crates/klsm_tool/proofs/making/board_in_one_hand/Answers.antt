use Rattle.std.proofs.Common.{refl}
use Rattle.klsm_board.proofs.lemmas.ending.MemberLemmas.{none_missing}
use Rattle.klsm_tool.proofs.CrewLemmas.{gathered_fresh}
use Rattle.klsm_tool.proofs.making.board_in_one_hand.Goals as goal

pub unreachable-requires : goal.unreachable-requires
unreachable-requires c =
    let refused = c.in_default.field-0 in
    none_missing c.in_ok-board.board c.in_ok-board.members.items c.in_ok-board.ensures.crew.are refused.missing ((c.in_default.ensures.missing refused.missing).0 refl)

pub returns-clause-fresh : goal.returns-clause-fresh
returns-clause-fresh c =
    let told = c.in-Ok.ensures in
    gathered_fresh c.in-Ok.all c.in_ok-board.board c.in_ok-board.members.items c.in_ok-board.board.sizes told.of.1 told.same.0 told.same.1 c.in_ok-board.ensures.crew
