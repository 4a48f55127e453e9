use Rattle.std.proofs.Common.{ap, ◌∙◌}
use Rattle.std.specs.List.{flat_map}
use Rattle.std.proofs.lemmas.List.{take_all}
use Rattle.klsm_world.proofs.lemmas.kept.LiveListLemmas.{joined_more}
use Rattle.klsm_world.proofs.contents.joined.Goals as goal

pub loop-content-init : goal.loop-content-init
loop-content-init g c = c.in-Ok.ensures.items

pub loop-content-preserved : goal.loop-content-preserved
loop-content-preserved g c =
    joined_more c.args.contents.now c.loop-content.content-index c.as_slice.result.now c.content-item.result c.loop-content.all.items c.extend_from_slice.new.self.items
    c.loop-content-test.true c.content-item.is c.as_slice.ensures c.loop-content.invariant c.in-Ok-extend_from_slice.ensures.items

pub returns-clause-joined : goal.returns-clause-joined
returns-clause-joined g c = c.loop-content.invariant ∙ ap (flat_map (λ c. c)) (take_all c.loop-content.content-index c.args.contents.now c.loop-content-test.false)
