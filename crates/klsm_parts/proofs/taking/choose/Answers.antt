use Rattle.std.proofs.Common.{◌≡◌, true, false, refl, sym, ap, subst, ◌∙◌, rules}
use Rattle.std.specs.List.{slice_get}
use Rattle.klsm_lsm.specs.Lsm.{content}
use Rattle.klsm_parts.specs.Parts.{candidates_of}
use Rattle.klsm_parts.specs.Taking.{picks}
use Rattle.klsm_parts.proofs.TakeLemmas.{not_asked, is_asked, own_goes, candidate_goes, some_candidate}
use Rattle.klsm_parts.proofs.taking.choose.Goals as goal

pub returns-then-is_smaller_own-clause-asked : goal.returns-then-is_smaller_own-clause-asked
returns-then-is_smaller_own-clause-asked g c asked =
    let tested = c.is_smaller_own.ensures in
    let unasked = not_asked _ _ c.in_ok-least.least c.is_smaller_own.result (sym c.in_ok-least.ensures) tested c.if-is_smaller_own.true in
    let bad : false ≡ true = sym unasked ∙ asked in
    cc

pub pick-index-requires : goal.pick-index-requires
pick-index-requires g c = record {
  some = rw c.candidates.ensures (some_candidate c.args.shared.now.k (content c.args.shared.now.blocks) c.in_ok-least.least (sym c.in_ok-least.ensures));
}

pub returns-then-is_smaller_own-2-clause-unasked : goal.returns-then-is_smaller_own-2-clause-unasked
returns-then-is_smaller_own-2-clause-unasked g c unasked =
    let tested = c.is_smaller_own.ensures in
    let asked = is_asked _ _ c.in_ok-least.least c.is_smaller_own.result (sym c.in_ok-least.ensures) tested c.if-is_smaller_own.false in
    let bad : true ≡ false = sym asked ∙ unasked in
    cc

pub returns-then-is_smaller_own-2-clause-asked : goal.returns-then-is_smaller_own-2-clause-asked
returns-then-is_smaller_own-2-clause-asked g c asked = record {
  index = c.pick-index.result;
  picked = rw (← c.candidates.ensures) c.pick-index.ensures.picked;
  candidate = c.own_first-rank.result.0;
  found = ap (slice_get (candidates_of c.args.shared.now)) (sym c.own_first-rank.ensures.first) ∙ c.own_first-rank.ensures.candidate;
  follows = own_goes _ c.own_first-rank.result.0 c.is_smaller_own-2.result c.is_smaller_own-2.ensures c.if-is_smaller_own-2.true;
}

pub returns-clause-unasked : goal.returns-clause-unasked
returns-clause-unasked g c unasked =
    let tested = c.is_smaller_own.ensures in
    let asked = is_asked _ _ c.in_ok-least.least c.is_smaller_own.result (sym c.in_ok-least.ensures) tested c.if-is_smaller_own.false in
    let bad : true ≡ false = sym asked ∙ unasked in
    cc

pub returns-clause-asked : goal.returns-clause-asked
returns-clause-asked g c asked = record {
  index = c.pick-index.result;
  picked = rw (← c.candidates.ensures) c.pick-index.ensures.picked;
  candidate = c.own_first-rank.result.0;
  found = ap (slice_get (candidates_of c.args.shared.now)) (sym c.own_first-rank.ensures.first) ∙ c.own_first-rank.ensures.candidate;
  follows = candidate_goes _ c.own_first-rank.result.0 c.is_smaller_own-2.result c.is_smaller_own-2.ensures c.if-is_smaller_own-2.false;
}

pub returns-clause-candidate : goal.returns-clause-candidate
returns-clause-candidate g c = c.own_first-rank.ensures.candidate

pub least-requires : goal.least-requires
least-requires g c = search

pub branch-least-requires : goal.branch-least-requires
branch-least-requires g c = search rules

pub from_residual-requires : goal.from_residual-requires
from_residual-requires g c = search rules

pub is_smaller_own-requires : goal.is_smaller_own-requires
is_smaller_own-requires g c = search

pub candidates-requires : goal.candidates-requires
candidates-requires g c = search

pub is_smaller_own-requires-2 : goal.is_smaller_own-requires-2
is_smaller_own-requires-2 g c = search

pub own_first-rank-requires : goal.own_first-rank-requires
own_first-rank-requires g c = (search, rw (← c.candidates.ensures) c.pick-index.ensures.below)

pub returns-in_err-least-clause-unasked : goal.returns-in_err-least-clause-unasked
returns-in_err-least-clause-unasked g c unasked = (refl, c.from_residual.ensures)

pub returns-in_err-least-clause-asked : goal.returns-in_err-least-clause-asked
returns-in_err-least-clause-asked g c asked =
    let bad : false ≡ true = subst (λ o. picks c.args.least_own o ≡ true) (sym c.least.ensures ∙ c.in_err-least.was) asked in
    cc

pub returns-in_err-least-clause-candidate : goal.returns-in_err-least-clause-candidate
returns-in_err-least-clause-candidate g c = rw c.from_residual.ensures tt

pub returns-then-is_smaller_own-clause-unasked : goal.returns-then-is_smaller_own-clause-unasked
returns-then-is_smaller_own-clause-unasked g c unasked = (refl, refl)

pub returns-then-is_smaller_own-clause-candidate : goal.returns-then-is_smaller_own-clause-candidate
returns-then-is_smaller_own-clause-candidate g c = tt

pub returns-then-is_smaller_own-2-clause-candidate : goal.returns-then-is_smaller_own-2-clause-candidate
returns-then-is_smaller_own-2-clause-candidate g c = tt
