use Rattle.klsm_schedules.proofs.lemmas.lists.ListLemmas.{no_item}
use Rattle.std.specs.Prelude.{◌≡◌, List}
use Rattle.klsm_run.specs.declared.item.Item.{Item}
use Rattle.klsm_board.specs.Seats.{contents, CarriedOut}
use Rattle.klsm_board.proofs.steps.commit_moving_by_front.Given as goal

abbrev pub ghosts-store_front : goal.ghosts-store_front
ghosts-store_front g a = record {
  sizes = a.table.now.key;
  thread = a.thread;
  fits = λ e. (moved : List Item) × (e ≡ g.T.Moving.event a.about.now moved)
      × CarriedOut g.S.Holding.content g.S.Holding.suits a.table.now.key a.thread (g.T.Moving.event a.about.now moved)
      (contents g.S.Holding.content g.S.Holding.suits a.table.now.key a.thread a.seat.now.me.1) a.seat.now.me;
  least = no_item;
}
