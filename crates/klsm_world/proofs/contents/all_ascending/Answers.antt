use Rattle.std.proofs.Common.{◌∙◌, ap}
use Rattle.klsm_run.specs.Content.{sorted}
use Rattle.klsm_schedules.proofs.lemmas.lists.ListLemmas.{sorted_by_sort}
use Rattle.klsm_world.proofs.contents.all_ascending.Goals as goal

pub returns-clause-ascending : goal.returns-clause-ascending
returns-clause-ascending g c =
    sorted_by_sort c.in_ok-all.all.items c.sort_unstable.new.self.items c.sort_unstable.ensures.permutation c.sort_unstable.ensures.sorted ∙ ap sorted c.in_ok-all.ensures.joined
