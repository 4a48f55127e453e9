use Rattle.std.proofs.lemmas.List.Elements.{All-pop}
use Rattle.klsm_board.specs.Boards.{IsOf}
use Rattle.klsm_assignment.proofs.worker.workers_on.Goals as goal

pub loop-preserved : goal.loop-preserved
loop-preserved g c = (All-pop (λ member. IsOf member c.args.board.now) c.loop.members.items c.pop.new.self.items c.pop.result c.pop.ensures.items c.loop.invariant).0
