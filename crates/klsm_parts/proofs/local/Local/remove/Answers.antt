use Rattle.std.proofs.Common.{◌≡◌, ℕ, ◌<◌, [], length, get_or, Some, refl, sym, ap, ◌∙◌, subst, inl}
use Rattle.std.specs.List.{slice_get}
use Rattle.klsm_run.specs.Content.{sorted}
use Rattle.klsm_lsm.specs.Lsm.{content}
use Rattle.klsm_lsm.specs.Adding.{cut}
use Rattle.klsm_parts.specs.Least.{IsLeast}
use Rattle.klsm_parts.specs.Parts.{PartState, items_in, least_in}
use Rattle.klsm_parts.specs.Events.{MayTake, own_after_take}
use Rattle.klsm_parts.specs.Taking.{IsCutFrom}
use Rattle.klsm_parts.proofs.EventLemmas.{cut_is_taken}
use Rattle.klsm_parts.proofs.OwnOrderLemmas.{own_may_take, may_take_sorted}
use Rattle.klsm_parts.proofs.OwnLemmas.{own_cut}
use Rattle.klsm_parts.proofs.FoundLemmas.{searched}
use Rattle.klsm_parts.proofs.FitLemmas.{first_fits, run_fits}
use Rattle.klsm_parts.proofs.local.Local.remove.Goals as goal

pub remove-taken-requires : goal.remove-taken-requires
remove-taken-requires g c =
    let block = subst (λ (p : PartState). c.args.block < length p.blocks) (sym c.self.view_is) c.requires.block in
    let index = subst (λ (p : PartState). c.args.index < length (get_or p.blocks c.args.block [])) (sym c.self.view_is) c.requires.index in
    (search first_fits, (block, index))

pub invariant_of-self : goal.invariant_of-self
invariant_of-self g c =
    let next = searched (cut c.self.inside.lsm c.args.block c.args.index) c.least_block-self-inside.result (rw (← c.remove-taken.ensures.rest) c.least_block-self-inside.ensures) in
    rw c.remove-taken.ensures.rest (own_cut g.row.CAP c.self.inside.k c.self.inside.lsm c.args.block c.args.index c.remove-taken.result c.self.inside.found c.least_block-self-inside.result c.self.invariant c.remove-taken.ensures.item next)

pub returns-clause-least : goal.returns-clause-least
returns-clause-least g c =
    let least = subst (λ (p : PartState). slice_get (get_or p.blocks c.args.block []) c.args.index ≡ least_in p) (sym c.self.view_is) c.requires.least in
    subst (λ (p : PartState). IsLeast c.remove-taken.result (content p.blocks)) c.self.view_is (sym least ∙ c.remove-taken.ensures.item)

pub returns-clause-event : goal.returns-clause-event
returns-clause-event g c =
    let bs = c.self.inside.lsm in
    let least = subst (λ (p : PartState). slice_get (get_or p.blocks c.args.block []) c.args.index ≡ least_in p) (sym c.self.view_is) c.requires.least in
    let first : slice_get (sorted (content bs)) 0 ≡ Some c.remove-taken.result = sym least ∙ c.remove-taken.ensures.item in
    let cut : IsCutFrom c.remove-taken.result bs c.remove-taken.new.self = (c.args.block, c.args.index, c.remove-taken.ensures.item, c.remove-taken.ensures.rest) in
    subst (λ (p : PartState). ((owner : ℕ) → MayTake p.k owner (items_in p) [] c.remove-taken.result) × (sorted (content c.remove-taken.new.self) ≡ own_after_take (items_in p) c.remove-taken.result)) c.self.view_is (
      λ owner. may_take_sorted c.self.inside.k owner (content bs) [] c.remove-taken.result (own_may_take c.self.inside.k owner (content bs) [] c.remove-taken.result first (inl refl)),
      cut_is_taken bs c.remove-taken.new.self c.remove-taken.result cut,
    )

pub returns-clause-cut : goal.returns-clause-cut
returns-clause-cut g c =
    subst (λ (p : PartState). IsCutFrom c.remove-taken.result p.blocks c.remove-taken.new.self) c.self.view_is (c.args.block, c.args.index, c.remove-taken.ensures.item, c.remove-taken.ensures.rest)

pub returns-clause-k : goal.returns-clause-k
returns-clause-k g c = ap (λ (p : PartState). p.k) c.self.view_is

pub remove-taken-requires-room-R-Run : goal.remove-taken-requires-room-R-Run
remove-taken-requires-room-R-Run g c κs = search run_fits

pub least_block-self-inside-requires : goal.least_block-self-inside-requires
least_block-self-inside-requires g c = search first_fits

pub least_block-self-inside-requires-room-R-Run : goal.least_block-self-inside-requires-room-R-Run
least_block-self-inside-requires-room-R-Run g c κs = search run_fits
