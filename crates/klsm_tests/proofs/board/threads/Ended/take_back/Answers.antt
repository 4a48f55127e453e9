use Rattle.std.proofs.Common.{All, subst, sym}
use Rattle.std.proofs.lemmas.List.Elements.{All-pop}
use Rattle.klsm_board.specs.Boards.{IsOf}
use Rattle.klsm_tests.proofs.board.threads.Ended.take_back.Goals as goal

pub invariant_of-self : goal.invariant_of-self
invariant_of-self c =
    let ended = c.args.self.now in
    record { workers_are_of = (All-pop (λ worker. IsOf worker.member ended.found.crew.board) ended.workers.items c.pop.new.self.items c.pop.result c.pop.ensures.items ended.workers_are_of).0 }

pub invariant_of-self-2 : goal.invariant_of-self-2
invariant_of-self-2 c =
    let ended = c.args.self.now in
    let others = (All-pop (λ worker. IsOf worker.member ended.found.crew.board) ended.workers.items c.pop.new.self.items c.pop.result c.pop.ensures.items ended.workers_are_of).0 in
    record { workers_are_of = subst (λ board. All (λ worker. IsOf worker.member board) c.pop.new.self.items) (sym c.add.ensures) others }
