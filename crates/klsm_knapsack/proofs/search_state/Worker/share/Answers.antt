use Rattle.std.proofs.Common.{◌∙◌, refl, lit<}
use Rattle.std.proofs.lemmas.List.{append-nil}
use Rattle.klsm_board.specs.Boards.{own_steps}
use Rattle.klsm_knapsack.proofs.RunLemmas.{shares_or_keeps}
use Rattle.klsm_knapsack.proofs.search_state.Worker.share.Goals as goal

pub share-requires : goal.share-requires
share-requires g c = (lit< tt, (lit< tt, c.requires.of.member))

pub returns-clause-same : goal.returns-clause-same
returns-clause-same g c = record { member = c.share.ensures.same; seat = refl }

pub returns-clause-shares : goal.returns-clause-shares
returns-clause-shares g c =
    let before = c.args.self.now.member in let told = c.share.ensures in
    shares_or_keeps g.row.LEVELS before.number (own_steps before) (own_steps c.share.new.self) c.share.result told.ok told.refused

pub returns-clause-work : goal.returns-clause-work
returns-clause-work g c =
    let adds = c.share.ensures.adds in
    λ i. record { inserted = (adds.inserted_are ∙ append-nil _) i; deleted = (adds.deleted_are ∙ append-nil _) i; found = c.args.self.now.seat.table_seat.me.0.found }

pub returns-clause-keeps : goal.returns-clause-keeps
returns-clause-keeps g c = (refl, refl)
