use Rattle.std.proofs.Common.{◌≤◌}
use Rattle.klsm_board.specs.Boards.{own_steps}
use Rattle.klsm_knapsack.specs.Answers.{EndsIdle}
use Rattle.klsm_knapsack.specs.Workers.{InsertsNodes, IsAtWork, IsSameWorker, KeepsCourse, work_by}
use Rattle.klsm_knapsack.proofs.search_state.Worker.work.Given as goal

abbrev pub invariant-loop : goal.invariant-loop
invariant-loop g l = record {
  next : (goal.iterator-loop g).can_next l.iterator' × (goal.iterator-loop g).is_finite l.iterator';
  few : l.nothings ≤ l.idle;
  same : IsSameWorker l.fn.self l.self;
  course : KeepsCourse l.fn.self l.self;
  at_work : IsAtWork l.state.no_room l.instance l.self;
  answers : EndsIdle l.nothings (own_steps l.fn.self.member) (own_steps l.self.member);
  inserts : InsertsNodes l.instance (work_by l.fn.self).inserted (work_by l.self).inserted;
}
