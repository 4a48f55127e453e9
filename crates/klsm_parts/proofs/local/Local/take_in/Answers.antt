use Rattle.std.proofs.Common.{◌+◌, ◌≤◌, ◌++◌, ◌∙◌, length, sym, ap, subst, arith}
use Rattle.klsm_run.specs.declared.limits.TheConstants.{OWN_LEVELS}
use Rattle.klsm_run.specs.Content.{sorted, ShareNone}
use Rattle.klsm_lsm.specs.Lsm.{content}
use Rattle.klsm_lsm.specs.Limit.{limit_of}
use Rattle.klsm_lsm.specs.Adding.{add}
use Rattle.klsm_lsm.proofs.AddLemmas.{sorted_add}
use Rattle.klsm_parts.specs.Parts.{PartState}
use Rattle.klsm_parts.proofs.OwnLemmas.{own_absorbed, absorbed_is}
use Rattle.klsm_parts.proofs.FoundLemmas.{searched}
use Rattle.klsm_parts.proofs.FitLemmas.{first_fits, run_fits}
use Rattle.klsm_parts.proofs.local.Local.take_in.Goals as goal

pub absorb_items-requires : goal.absorb_items-requires
absorb_items-requires g c =
    let apart = subst (λ (p : PartState). ShareNone (content p.blocks) c.args.items.now) (sym c.self.view_is) c.requires.apart in
    (search first_fits, (search (run_fits, first_fits), (c.requires.capacity, (c.requires.some, (c.requires.ascending, apart)))))

pub invariant_of-self : goal.invariant_of-self
invariant_of-self g c =
    let room = subst (λ (p : PartState). length (content p.blocks) + length c.args.items.now ≤ p.k) (sym c.self.view_is) c.requires.room in
    own_absorbed g.row.CAP c.self.inside.k c.self.inside.lsm c.absorb_items.new.self c.args.items.now c.self.inside.found c.least_block-self-inside.result c.self.invariant (ap (λ bs. sorted (content bs)) c.in-Ok.ensures.added ∙ sorted_add c.self.inside.lsm c.args.items.now) room (searched c.absorb_items.new.self c.least_block-self-inside.result c.least_block-self-inside.ensures)

pub returns-clause-k : goal.returns-clause-k
returns-clause-k g c = ap (λ (p : PartState). p.k) c.self.view_is

pub returns-clause-blocks : goal.returns-clause-blocks
returns-clause-blocks g c = c.in-Ok.ensures.added ∙ ap (λ (p : PartState). add p.blocks c.args.items.now) c.self.view_is

pub returns-clause-items : goal.returns-clause-items
returns-clause-items g c =
    absorbed_is c.self.inside.lsm c.absorb_items.new.self c.args.items.now (ap (λ bs. sorted (content bs)) c.in-Ok.ensures.added ∙ sorted_add c.self.inside.lsm c.args.items.now)
    ∙ ap (λ (p : PartState). sorted (c.args.items.now ++ sorted (content p.blocks))) c.self.view_is

pub unreachable-requires : goal.unreachable-requires
unreachable-requires g c =
    let room = subst (λ (p : PartState). length (content p.blocks) + length c.args.items.now ≤ p.k) (sym c.self.view_is) c.requires.room in
    let fits : length (content c.self.inside.lsm) + length c.args.items.now ≤ limit_of OWN_LEVELS g.row.CAP = omega (arith, room, c.self.invariant.k_in_range, c.self.invariant.capacity_in_range.at_most) in
    let bad = c.in_default.ensures.room.1 fits in
    cc

pub least_block-self-inside-requires : goal.least_block-self-inside-requires
least_block-self-inside-requires g c = search first_fits

pub least_block-self-inside-requires-room-R-Run : goal.least_block-self-inside-requires-room-R-Run
least_block-self-inside-requires-room-R-Run g c κs = search run_fits
