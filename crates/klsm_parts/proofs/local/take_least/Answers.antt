use Rattle.std.proofs.Common.{◌≡◌, [], None, Some, get_or, ap, ◌∙◌}
use Rattle.std.specs.List.{slice_get}
use Rattle.std.proofs.lemmas.Option.{slice_get_within}
use Rattle.klsm_run.proofs.ContentLemmas.{sorted_itself}
use Rattle.klsm_lsm.specs.Lsm.{content}
use Rattle.klsm_parts.proofs.OwnLemmas.{some_ranked}
use Rattle.klsm_parts.proofs.local.take_least.Goals as goal

pub unreachable-requires : goal.unreachable-requires
unreachable-requires g c =
    let first = some_ranked 0 c.args.own.now.blocks c.requires in
    let bad : None ≡ Some first.0 = c.in_default.ensures.item ∙ first.1 in
    cc

pub least_place-requires : goal.least_place-requires
least_place-requires g c = search

pub remove-requires : goal.remove-requires
remove-requires g c =
    let place = c.in-Some.place in
    let found = c.in-Some.ensures.place in
    let within = slice_get_within (get_or c.args.own.now.blocks place.block []) place.index place.item found.1 in
    (search, (found.0, (within, found.1 ∙ c.in-Some.ensures.item)))

pub returns-clause-least : goal.returns-clause-least
returns-clause-least g c = c.remove.ensures.least

pub returns-clause-cut : goal.returns-clause-cut
returns-clause-cut g c = c.remove.ensures.cut

pub returns-clause-k : goal.returns-clause-k
returns-clause-k g c = c.remove.ensures.k

pub returns-clause-event : goal.returns-clause-event
returns-clause-event g c = c.remove.ensures.event

pub returns-clause-early : goal.returns-clause-early
returns-clause-early g c front below =
    (record { least = ap (λ xs. slice_get xs 0) (sorted_itself (content c.args.own.now.blocks)) ∙ c.remove.ensures.least; below = below }, c.remove.ensures.event.1)

pub unreachable-unreachable : goal.unreachable-unreachable
unreachable-unreachable g c = absurd c.unreachable.result
