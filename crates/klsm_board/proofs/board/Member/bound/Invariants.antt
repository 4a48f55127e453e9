use Rattle.std.specs.Prelude.{◌≡◌, ℕ}
use Rattle.klsm_board.specs.Boards.{IsSame, known_of_others, own_steps}
use Rattle.klsm_board.specs.Bounding.{MissesSomeTimes}
use Rattle.klsm_board.proofs.board.Member.bound.Given as goal

abbrev pub invariant-loop : goal.invariant-loop
invariant-loop g l = record {
  same : IsSame l.initial.self l.self;
  others : known_of_others l.self ≡ known_of_others l.initial.self;
  missed : (tries : ℕ) × MissesSomeTimes tries l.initial.self.sizes.threads (own_steps l.initial.self) (own_steps l.self);
  words : l.pause.waiter.table.now.table_id.words ≡ l.board.table.shared.table_id.words;
}
