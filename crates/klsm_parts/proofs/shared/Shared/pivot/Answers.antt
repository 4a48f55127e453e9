use Rattle.std.proofs.Common.{◌≡◌, ◌+◌, ◌<◌, length, get_or, [], ap, sym, ◌∙◌, subst}
use Rattle.klsm_lsm.specs.Lsm.{content}
use Rattle.klsm_pile.specs.Leaving.{count_in_least}
use Rattle.klsm_parts.specs.Parts.{PartState}
use Rattle.klsm_parts.specs.Pivots.{IsPivotAt}
use Rattle.klsm_parts.proofs.CountedLemmas.{pivot_at}
use Rattle.klsm_parts.proofs.shared.Shared.pivot.Goals as goal

pub returns-clause-exact : goal.returns-clause-exact
returns-clause-exact g c =
    let counted = c.pivot.ensures ∙ ap (λ n. count_in_least n (content c.self.inside.pile.blocks) (get_or c.self.inside.pile.blocks c.args.block [])) c.self.invariant.reach in
    subst (λ (p : PartState). IsPivotAt (p.k + 1) p.blocks c.args.block c.pivot.result) c.self.view_is
    (pivot_at (c.self.inside.k + 1) c.args.block c.pivot.result c.self.inside.pile.blocks c.len-known.ensures.lawful (subst (λ (p : PartState). c.args.block < length p.blocks) (sym c.self.view_is) c.requires) counted)

pub returns-clause-counts : goal.returns-clause-counts
returns-clause-counts g c =
    let counted = c.pivot.ensures ∙ ap (λ n. count_in_least n (content c.self.inside.pile.blocks) (get_or c.self.inside.pile.blocks c.args.block [])) c.self.invariant.reach in
    subst (λ (p : PartState). c.pivot.result ≡ count_in_least (p.k + 1) (content p.blocks) (get_or p.blocks c.args.block [])) c.self.view_is counted
