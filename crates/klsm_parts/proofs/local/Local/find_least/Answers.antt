use Rattle.std.proofs.Common.{◌≡◌, [], get_or, ap, sym, subst, ◌∙◌, rules}
use Rattle.std.specs.List.{slice_get}
use Rattle.std.proofs.lemmas.Option.{same_Some}
use Rattle.klsm_run.specs.Content.{sorted}
use Rattle.klsm_lsm.specs.Lsm.{content}
use Rattle.klsm_parts.specs.Parts.{PartState, HasLeastFirst}
use Rattle.klsm_parts.proofs.local.Local.find_least.Goals as goal

pub invariant_of-self : goal.invariant_of-self
invariant_of-self g c =
    let place = c.in_ok-place.place in
    let known = c.in_ok-place.ensures in
    let there : slice_get (get_or c.args.self.now.blocks place.block []) 0 ≡ slice_get (sorted (content c.args.self.now.blocks)) 0 =
    ap (slice_get (get_or c.args.self.now.blocks place.block [])) (sym known.first) ∙ (known.place.1 ∙ known.item) in
    let least : HasLeastFirst c.args.self.now.blocks place.block = record { inside = known.place.0; first = there } in
    record {
      few = c.self.invariant.few;
      k_in_range = c.self.invariant.k_in_range;
      capacity_in_range = c.self.invariant.capacity_in_range;
      found_is = λ at is. subst (HasLeastFirst c.self.inside.lsm) (same_Some place.block at is) (subst (λ (p : PartState). HasLeastFirst p.blocks place.block) (sym c.self.view_is) least);
    }

pub returns-clause-least : goal.returns-clause-least
returns-clause-least g c = search rules
