use Rattle.std.proofs.Common.{◌∙◌, List, ap, sym}
use Rattle.std.specs.List.{flat_map}
use Rattle.klsm_run.specs.declared.item.Item.{Item}
use Rattle.klsm_run.specs.Content.{skipped}
use Rattle.klsm_world.specs.WorldView.{WorldView}
use Rattle.klsm_schedules.specs.Worlds.{live}
use Rattle.klsm_world.proofs.lemmas.kept.LiveListLemmas.{live_joined}
use Rattle.klsm_world.proofs.world.World.skipped.Goals as goal

pub returns-clause-skipped : goal.returns-clause-skipped
returns-clause-skipped g c =
    c.count_all_smaller.ensures
    ∙ (ap (λ (contents : List (List Item)). skipped (flat_map (λ c. c) contents) c.args.item) c.deref.ensures.value
    ∙ (ap (λ (all : List Item). skipped all c.args.item) (sym (live_joined _ c.self.inside.words.items c.self.inside.contents.items c.self.inside.lists.items c.self.invariant))
    ∙ ap (λ (r : WorldView). skipped (live r.world) c.args.item) c.self.view_is))
