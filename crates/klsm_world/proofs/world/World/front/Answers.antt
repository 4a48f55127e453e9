use Rattle.std.proofs.Common.{sym, ap, ◌∙◌, slice_get}
use Rattle.std.specs.Option.{option_copied}
use Rattle.klsm_world.proofs.lemmas.kept.KeptLemmas.{front_by_first, front_is_content}
use Rattle.klsm_world.proofs.world.World.front.Goals as goal

pub returns-in-Some-clause-word : goal.returns-in-Some-clause-word
returns-in-Some-clause-word g c =
    front_by_first c.args.self.now.world _ _ c.self.invariant (ap (λ r. r.world) c.self.view_is) c.index.ensures
    (ap (λ l. slice_get l 0) (sym c.as_slice.ensures) ∙ (sym c.first.ensures.value ∙ ap option_copied c.in-Some.is))

pub returns-in-Some-clause-front : goal.returns-in-Some-clause-front
returns-in-Some-clause-front g c = returns-in-Some-clause-word g c ∙ front_is_content c.args.self.now.world c.self.invariant (ap (λ r. r.world) c.self.view_is)

pub returns-in-None-clause-word : goal.returns-in-None-clause-word
returns-in-None-clause-word g c =
    front_by_first c.args.self.now.world _ _ c.self.invariant (ap (λ r. r.world) c.self.view_is) c.index.ensures
    (ap (λ l. slice_get l 0) (sym c.as_slice.ensures) ∙ (sym c.first.ensures.value ∙ ap option_copied c.in-None.is))

pub returns-in-None-clause-front : goal.returns-in-None-clause-front
returns-in-None-clause-front g c = returns-in-None-clause-word g c ∙ front_is_content c.args.self.now.world c.self.invariant (ap (λ r. r.world) c.self.view_is)
