use Rattle.std.proofs.Common.{◌≡◌, [], vec_capacity}
use Rattle.klsm_board.proofs.lemmas.ending.JoinLemmas.{AreJoined}
use Rattle.klsm_board.proofs.finishing.join_all.Given as goal

-- the seat carries no part, and knows the lists of the members that are gone
abbrev pub invariant-loop-member : goal.invariant-loop-member
invariant-loop-member g l = (l.seat.table_id ≡ l.table.table_id) × (l.seat.me.1 ≡ []) × (vec_capacity l.members ≡ vec_capacity l.fn.members)
    × AreJoined l.fn.members.items l.members.items l.seat.me.0

abbrev pub decreases-loop-member : goal.decreases-loop-member
decreases-loop-member g l = goal.left-loop-member g l
