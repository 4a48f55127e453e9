use Rattle.std.proofs.Common.{◌≡◌, ◌∙◌, sym}
use Rattle.std.specs.List.{list_any}
use Rattle.klsm_world.proofs.lemmas.lists.ConditionLemmas.{counted_if_found, found_if_counted}
use Rattle.klsm_schedules.proofs.lemmas.lists.EqualLemmas.{are_equal}
use Rattle.klsm_world.proofs.conditions.has.Goals as goal

pub returns : goal.returns
returns c =
    let found : c.contains.result ≡ list_any (λ other. are_equal other c.args.item) c.args.items.now = c.contains.ensures.value in
    (λ here. counted_if_found c.args.item c.args.items.now (sym found ∙ here), λ some. found ∙ found_if_counted c.args.item c.args.items.now some)
