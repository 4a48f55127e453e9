use Rattle.std.proofs.Math.Logic.{∥∥₁_map}
use Rattle.klsm_board.proofs.lemmas.ending.WholeLemmas.{all_at_end}
use Rattle.klsm_board.proofs.all_members.AllMembers.threads.Goals as goal

pub returns-clause-rule : goal.returns-clause-rule
returns-clause-rule g c =
    let all = c.args.self.now in let me = all.acting in let whole = all.whole in let rests = me.rests in
    ∥∥₁_map rests.reached (λ r. all_at_end me.sizes me.number me.seat.me.0 r whole.has)
