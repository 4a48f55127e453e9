use Rattle.std.proofs.Common.{inl, inr, refl}
use Rattle.std.proofs.lemmas.Result.{err_from_is_err_and}
use Rattle.klsm_tool.proofs.replay_state.ReplayState.insert.Goals as goal

pub returns-clause-inserts : goal.returns-clause-inserts
returns-clause-inserts c = c.in_ok-item.ensures.inserts

-- no call was made
pub returns-then-is_err-clause-lacks : goal.returns-then-is_err-clause-lacks
returns-then-is_err-clause-lacks c = inl refl

pub returns-in_err-item-clause-lacks : goal.returns-in_err-item-clause-lacks
returns-in_err-item-clause-lacks c =
    let p = err_from_is_err_and c.from_residual.result c.from_residual.ensures.1 in
    rw p.1 (inr c.in_err-item.ensures.lacks)
