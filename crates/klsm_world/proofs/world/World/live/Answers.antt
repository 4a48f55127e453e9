use Rattle.std.proofs.Common.{◌∙◌, List, ap, sym}
use Rattle.std.specs.List.{flat_map}
use Rattle.klsm_run.specs.declared.item.Item.{Item}
use Rattle.klsm_run.specs.Content.{sorted}
use Rattle.klsm_world.specs.WorldView.{WorldView}
use Rattle.klsm_schedules.specs.Worlds.{live}
use Rattle.klsm_world.proofs.lemmas.kept.LiveListLemmas.{live_joined}
use Rattle.klsm_world.proofs.world.World.live.Goals as goal

pub returns-clause-live : goal.returns-clause-live
returns-clause-live g c =
    c.new.ensures
    ∙ (c.in_ok-all_ascending.ensures.ascending
    ∙ (ap (λ (contents : List (List Item)). sorted (flat_map (λ c. c) contents)) c.deref.ensures.value
    ∙ (ap sorted (sym (live_joined _ c.self.inside.words.items c.self.inside.contents.items c.self.inside.lists.items c.self.invariant))
    ∙ ap (λ (r : WorldView). sorted (live r.world)) c.self.view_is)))
