use Rattle.std.specs.Prelude.{◌≡◌, ◌≢◌, ◌⊎◌, length}
use Rattle.klsm_schedules.specs.OwnSteps.{inserted}
use Rattle.klsm_board.specs.Boards.{IsSame, known_of_others, own_steps}
use Rattle.klsm_board.specs.Inserting.{FindsFull, Waits}
use Rattle.klsm_board.proofs.board.Member.insert.Given as goal

abbrev pub invariant-loop : goal.invariant-loop
invariant-loop g l = record {
  same : IsSame l.initial.self l.self;
  others : known_of_others l.self ≡ known_of_others l.initial.self;
  waits : Waits l.initial.self.number (FindsFull l.initial.self.sizes.k) (own_steps l.initial.self) (own_steps l.self);
  first : (own_steps l.self ≡ own_steps l.initial.self) ⊎ (length (inserted (own_steps l.initial.self)) ≢ l.initial.self.sizes.quota);
  words : l.pause.waiter.table.now.table_id.words ≡ l.board.table.shared.table_id.words;
}
