use Rattle.std.proofs.Common.{◌∙◌, ap, ◌++◌}
use Rattle.klsm_run.specs.Content.{sorted}
use Rattle.klsm_run.proofs.ApartLemmas.{ascending_sorted, apart_if_sharing_none}
use Rattle.klsm_union.specs.Halves.{owed_items}
use Rattle.klsm_union.proofs.UnionLemmas.{union_begun}
use Rattle.klsm_union.proofs.union.Union.begin.Goals as goal

pub new-work-requires-clause-ascending : goal.new-work-requires-clause-ascending
new-work-requires-clause-ascending g c =
    rw (c.in-Ok.ensures.items, c.in-Ok-try_clone.ensures.items)
    (ascending_sorted c.args.left c.args.right c.in-Ok.ensures.ascending c.in-Ok-try_clone.ensures.ascending (apart_if_sharing_none _ _ c.requires.apart))

pub invariant_of-result : goal.invariant_of-result
invariant_of-result g c =
    union_begun c.args.left c.args.right _ c.requires.apart c.requires.room
    (ap owed_items c.agree-giver.ensures.taker ∙ (ap (λ xs. sorted (xs ++ c.of-2.result.value)) c.of.ensures ∙ ap (λ ys. sorted (c.args.left ++ ys)) c.of-2.ensures))
