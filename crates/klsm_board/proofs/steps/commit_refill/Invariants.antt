use Rattle.std.specs.Prelude.{◌≡◌}
use Rattle.klsm_schedules.specs.declared.step.Event.TheVariants.{Refill}
use Rattle.klsm_schedules.proofs.lemmas.lists.ListLemmas.{no_item}
use Rattle.klsm_board.specs.Seats.{last_arriving}
use Rattle.klsm_board.proofs.steps.commit_refill.Given as goal

abbrev pub ghosts-store_front : goal.ghosts-store_front
ghosts-store_front g a = record {
  sizes = a.table.now.key;
  thread = a.thread;
  fits = λ e. e ≡ Refill (last_arriving g.S.Holding.arriving a.seat.now.me.1);
  least = no_item;
}
